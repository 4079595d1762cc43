-- The texts of bindings.
use Rattle.std.specs.Prelude.{ℕ, List, [], ◌∷◌, ◌++◌, codes}
use Rattle.zf_format.specs.declared.format.Format.{Format}
use Rattle.zf_format.specs.declared.format.Format.TheVariants.{Lines, Objects}
use Rattle.zf_format.specs.{string_text}
use Rattle.zf_term.specs.{Comp}
use Rattle.zf_value.specs.declared.plain.Value.{Value}
use Rattle.zf_print.specs.declared.spelling.Spelling.{Spelling}
use Rattle.zf_print.specs.ValueTexts.{parted, value_in}

-- the name of a component, before its value
abbrev pub name_in : Format → List ℕ → List ℕ
name_in Lines name = name ++ codes " == "
name_in Objects name = string_text name ++ codes ": "

abbrev pub component_in : Format → List Spelling → Comp → Value → List ℕ
component_in f ss c v = name_in f c.name ++ value_in f ss v

-- of each component with its value
abbrev pub components_in : Format → List Spelling → List Comp → List Value → List (List ℕ)
components_in f ss (c ∷ cs) (v ∷ vs) = component_in f ss c v ∷ components_in f ss cs vs
components_in f ss _ _ = []

-- the components in their order, each with its value
abbrev pub row_text : Format → List Spelling → List Comp → List Value → List ℕ
row_text Lines ss cs vs = parted (components_in Lines ss cs vs)
row_text Objects ss cs vs = codes "{" ++ parted (components_in Objects ss cs vs) ++ codes "}"

abbrev pub binding_text : List Spelling → List Comp → List Value → List ℕ
binding_text = row_text Lines

abbrev pub binding_object : List Spelling → List Comp → List Value → List ℕ
binding_object = row_text Objects
