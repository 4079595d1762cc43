-- The sets of numbers: infinite, or, where numbers end at a greatest one and its opposite, sets like others.
use Rattle.std.specs.Prelude.{◌≡◌, ℕ, ℤ, pos, neg_ℤ, Option, Some, None}
use Rattle.zf_meaning.specs.Prelude.{Infinite, Num, Nat, Nat1, direct, ResolvedTree, Outcome, Out, IsInterval}
use Rattle.zf_meaning.specs.Environments.{Environment}

-- the least number of a set, where n is the greatest of all numbers
abbrev pub least : Infinite → ℕ → ℤ
least Num n = neg_ℤ (pos n)
least Nat n = pos 0
least Nat1 n = pos 1

-- the set of its numbers up to the greatest of all; out where there is no greatest
abbrev pub IsNumberSet : Option ℕ → Infinite → Outcome → Type 0
IsNumberSet None s o = o ≡ Out
IsNumberSet (Some n) s o = IsInterval (least s n) (pos n) o

-- the set, if it is infinite: none is where numbers end
abbrev pub unended : Option Infinite → (numbers : Option ℕ) → Option Infinite
unended (Some s) None = Some s
unended _ _ = None

-- the infinite set that a term is
abbrev pub infinite_in : Environment → ResolvedTree → Option Infinite
infinite_in e t = unended (direct e.globals t) e.numbers
