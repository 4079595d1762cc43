-- How the elements of each given set and free type are spelled, by the number of the type: in order of definition.
use Rattle.std.specs.Prelude.{ℕ, ◌+◌, List, [], ◌∷◌, ◌++◌, slice_get, codes, decimal, unwrap_or}
use Rattle.std.specs.Option.{option_map_or}
use Rattle.zf_term.specs.{Defined, Definition, free_type, given_set}
use Rattle.zf_print.specs.declared.spelling.Spelling.{Spelling}
use Rattle.zf_print.specs.declared.spelling.Spelling.TheVariants.{Numbered, Named}

-- the spelling of a type, before others
abbrev pub with_spelling : List ℕ → Definition → List Spelling → List Spelling
with_spelling name (given_set n) later = Numbered name ∷ later
with_spelling name (free_type n constructors) later = Named constructors ∷ later
with_spelling name _ later = later

abbrev pub spellings : List Defined → List Spelling
spellings [] = []
spellings (d ∷ g) = with_spelling d.name d.definition (spellings g)

-- the element at this place, from 0: the set's name with its number from 1, or its constructor
abbrev pub spelled : Spelling → ℕ → List ℕ
spelled (Numbered name) i = name ++ codes "." ++ decimal (i + 1)
spelled (Named constructors) i = unwrap_or (slice_get constructors i) []

-- the element at this place of the type of this number
abbrev pub element_text : List Spelling → ℕ → ℕ → List ℕ
element_text ss n i = option_map_or (λ s. spelled s i) (slice_get ss n) []
