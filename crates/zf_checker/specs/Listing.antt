-- What a text defines, as it is printed: in the order of definition, each line ended by a newline byte.
use Rattle.std.specs.Prelude.{ℕ, List, [], ◌∷◌, ◌++◌, flat_map, codes}
use Rattle.zf_term.specs.{abbreviation, Comp, constructor, Defined, Definition, free_type, given_set, schema, type_text}

abbrev pub choices_text : List (List ℕ) → List ℕ
choices_text [] = []
choices_text (name ∷ names) = name ++ flat_map (λ next. codes " | " ++ next) names

abbrev pub component_line : Comp → List ℕ
component_line c = codes "    " ++ c.name ++ codes ": " ++ type_text c.type ++ codes "\n"

-- a constructor stands in the line of its free type, and has none of its own
abbrev pub definition_text : List ℕ → Definition → List ℕ
definition_text name (given_set number) = codes "Given " ++ name ++ codes "\n"
definition_text name (free_type number names) = codes "Free " ++ name ++ codes " ::= " ++ choices_text names ++ codes "\n"
definition_text name (constructor number of_type place) = []
definition_text name (abbreviation t r x) = codes "Abbreviation " ++ name ++ codes ": " ++ type_text t ++ codes "\n"
definition_text name (schema a) = codes "Schema " ++ name ++ codes "\n" ++ flat_map component_line a.comps ++ codes "End\n"

abbrev pub listing : List Defined → List ℕ
listing g = flat_map (λ d. definition_text d.name d.definition) g
