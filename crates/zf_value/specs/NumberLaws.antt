-- What is claimed of division.
use Rattle.std.specs.Prelude.{◌≡◌, ℤ}
use Rattle.zf_value.specs.Numbers.{IsDivision}

-- a quotient and a remainder are the only ones
abbrev pub DivisionsTell : Type 0
DivisionsTell = (a b q r s t : ℤ) → IsDivision a b q r → IsDivision a b s t → (q ≡ s) × (r ≡ t)
