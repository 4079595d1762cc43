-- What is asked of a trial. No meaning of an answer rests on this file.
use Rattle.std.specs.Prelude.{ℕ, Bool, true, false, List}
use Rattle.zf_cores.specs.Choices.{IsChosen}

-- what is chosen by the one is chosen by the other
pub record IsFewer (small large : List Bool) : Type 0 where
  pub chosen : (i : ℕ) → IsChosen small i → IsChosen large i

-- P where it is so, Q where not
abbrev pub OneOf : Type 0 → Type 0 → Bool → Type 0
OneOf P Q true = P
OneOf P Q false = Q
