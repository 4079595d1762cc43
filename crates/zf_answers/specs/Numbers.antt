-- Which greatest numbers may be asked for.
use Rattle.std.specs.Prelude.{ℕ, ◌≤◌, ◌<◌, Option, Some, None}
use Rattle.zf_answers.specs.declared.numbers.TheConstants.{NUMBERS_MAX}

-- numbers have no end, or one up to which `\num` has no more members than a set may have
abbrev pub AreSmall : (numbers : Option ℕ) → Type 0
AreSmall None = Unit {0}
AreSmall (Some n) = n ≤ NUMBERS_MAX

abbrev pub AreTooLarge : (numbers : Option ℕ) → Type 0
AreTooLarge None = ⊥
AreTooLarge (Some n) = NUMBERS_MAX < n
