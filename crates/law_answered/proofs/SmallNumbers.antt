-- Numbers are small, or too large: then the set of all of them is out of bounds.
use Rattle.law_answered.proofs.Prelude.{◌↔◌, ◌⊎◌, inl, inr, None, Option, Some, ℕ, AreSmall, AreTooLarge, IsNumberSet, arith, cases_lt, least, pos}
use Rattle.std.proofs.lemmas.Int.{ints}
use Rattle.zf_term.specs.declared.extent.Infinite.TheVariants.{Num}
use Rattle.zf_value.specs.declared.value.Outcome.TheVariants.{Out}
use Rattle.zf_value.proofs.Intervals.{interval_not_out, interval_out}
use Rattle.zf_answers.specs.declared.numbers.TheConstants.{NUMBERS_MAX}

pub small_or_too_large : (numbers : Option ℕ) → AreSmall numbers ⊎ AreTooLarge numbers
small_or_too_large None = inl tt
small_or_too_large (Some n) = elim (cases_lt NUMBERS_MAX n) [
  | inl large ↦ inr large
  | inr small ↦ inl small
]

pub small_not_too_large : (numbers : Option ℕ) → AreSmall numbers → AreTooLarge numbers → ⊥
small_not_too_large None small large = large
small_not_too_large (Some n) small large = absurd (omega (arith, small, large))

pub too_large_out : (n : ℕ) → AreTooLarge (Some n) ↔ IsNumberSet (Some n) Num Out
too_large_out n = (
  λ large. interval_out (least Num n) (pos n) (omega (arith, ints, large)),
  λ out. let wide = interval_not_out (least Num n) (pos n) out in omega (arith, ints, wide),
)
