-- New numbers by a list, as the program keeps them.
use Rattle.std.specs.Prelude.{ℕ, List, get_or}

-- the number at this place of the list, or the place itself where there is none
abbrev pub place_in : List ℕ → ℕ → ℕ
place_in places i = get_or places i i
