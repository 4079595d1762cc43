-- The labels of a graph for Graphviz, between quotes.
use Rattle.std.specs.Prelude.{ℕ, List, [], ◌∷◌, codes, cond, eqb, flat_map, ◌++◌}
use Rattle.zf_steps.specs.Prelude.{Value, Spelling, components_in, Comp}
use Rattle.zf_format.specs.declared.format.Format.TheVariants.{Lines}

-- each text on a line of its own
abbrev pub column : List (List ℕ) → List ℕ
column texts = flat_map (λ t. t ++ codes "\n") texts

-- each component with its value
abbrev pub column_text : List Spelling → List Comp → List Value → List ℕ
column_text ss cs vs = column (components_in Lines ss cs vs)

-- What stands for a byte in a label: a quote and a backslash have a backslash before them, an end of line is `\l`, by which the line before it begins at the left, and `&` begins no name of a character.
abbrev pub label_byte : ℕ → List ℕ
label_byte b = cond (eqb b 34) (codes "\\\"") (cond (eqb b 92) (codes "\\\\") (cond (eqb b 10) (codes "\\l") (cond (eqb b 38) (codes "&amp;") (b ∷ []))))

abbrev pub label_of : List ℕ → List ℕ
label_of text = flat_map label_byte text
