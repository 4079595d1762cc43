-- The texts of values: as lines have them, and as objects have them, where elements are strings, and tuples and sets are arrays.
use Rattle.std.specs.Prelude.{ℕ, List, [], ◌∷◌, ◌++◌, codes}
use Rattle.std.specs.Fmt.{signed_decimal}
use Rattle.std.specs.List.{flat_map}
use Rattle.zf_format.specs.declared.format.Format.{Format}
use Rattle.zf_format.specs.declared.format.Format.TheVariants.{Lines, Objects}
use Rattle.zf_format.specs.{string_text}
use Rattle.zf_value.specs.declared.plain.Value.{Value, fold-Value}
use Rattle.zf_value.specs.declared.plain.Value.TheOpen.{Value-F}
use Rattle.zf_print.specs.declared.spelling.Spelling.{Spelling}
use Rattle.zf_print.specs.Spellings.{element_text}

-- each with a comma and a space before it
abbrev pub later_parts : List (List ℕ) → List ℕ
later_parts = flat_map (λ t. codes ", " ++ t)

-- with a comma and a space between each two
abbrev pub parted : List (List ℕ) → List ℕ
parted [] = []
parted (t ∷ ts) = t ++ later_parts ts

abbrev pub element_in : Format → List ℕ → List ℕ
element_in Lines name = name
element_in Objects name = string_text name

abbrev pub tuple_in : Format → List (List ℕ) → List ℕ
tuple_in Lines parts = codes "(" ++ parted parts ++ codes ")"
tuple_in Objects parts = codes "[" ++ parted parts ++ codes "]"

abbrev pub set_in : Format → List (List ℕ) → List ℕ
set_in Lines members = codes "{" ++ parted members ++ codes "}"
set_in Objects members = codes "[" ++ parted members ++ codes "]"

-- one level, with a text in the place of each value in it
abbrev pub value_step : Format → List Spelling → Value-F (List ℕ) → List ℕ
value_step f ss (Value-F.Int n) = signed_decimal n
value_step f ss (Value-F.Elem n i) = element_in f (element_text ss n i)
value_step f ss (Value-F.Tuple texts) = tuple_in f texts
value_step f ss (Value-F.SetOf texts) = set_in f texts

unfoldable pub value_in : Format → List Spelling → Value → List ℕ
value_in f ss = fold-Value (List ℕ) (value_step f ss)

abbrev pub value_text : List Spelling → Value → List ℕ
value_text = value_in Lines

abbrev pub value_object : List Spelling → Value → List ℕ
value_object = value_in Objects
