-- Which values are of a type, form by form. No public clause rests on this.
use Rattle.std.specs.Prelude.{◌≡◌, ◌≤◌, ℤ, List, length, FitsSigned}
use Rattle.zf_ranges.specs.Prelude.{Ty, Value, Int, AllByRecursion, Environment, IsOfType}
use Rattle.std.specs.Int.{w64}
use Rattle.zf_value.specs.declared.TheConstants.{SET_MAX}

abbrev pub IsNumberHere : Value → Type 0
IsNumberHere v = (n : ℤ) × (v ≡ Int n) × FitsSigned w64 n

-- no more values than a set may have, each of the type
abbrev pub AreAllOf : Environment → Ty → List Value → Type 0
AreAllOf e t xs = (length xs ≤ SET_MAX) × AllByRecursion (λ z. IsOfType e t z) xs
