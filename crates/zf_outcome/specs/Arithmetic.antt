-- The symbols between numbers. No public clause rests on this.
use Rattle.std.specs.Prelude.{◌≡◌, ℤ, pos, ◌≤ℤ◌, ◌<ℤ◌}
use Rattle.zf_outcome.specs.Prelude.{Infix, Maplet, UpTo, Plus, Minus, Union, Difference, Times, Div, Mod, Intersection, Composition, Overriding, DomainRestriction, RangeRestriction, DomainSubtraction, RangeSubtraction, Relation, Infinite, Num, Nat, Nat1, Outcome, Undefined, IsDifference, IsInterval, IsModulus, IsProduct, IsQuotient, IsSum}
use Rattle.zf_tree.specs.declared.symbol.Relation.TheVariants as relation

-- what the symbol makes of two numbers, if it is one of arithmetic
abbrev pub NumbersOutcome : Infix → ℤ → ℤ → Outcome → Type 0
NumbersOutcome UpTo a b o = IsInterval a b o
NumbersOutcome Plus a b o = IsSum a b o
NumbersOutcome Minus a b o = IsDifference a b o
NumbersOutcome Times a b o = IsProduct a b o
NumbersOutcome Div a b o = IsQuotient a b o
NumbersOutcome Mod a b o = IsModulus a b o
NumbersOutcome Maplet a b o = o ≡ Undefined
NumbersOutcome Union a b o = o ≡ Undefined
NumbersOutcome Difference a b o = o ≡ Undefined
NumbersOutcome Intersection a b o = o ≡ Undefined
NumbersOutcome Composition a b o = o ≡ Undefined
NumbersOutcome Overriding a b o = o ≡ Undefined
NumbersOutcome DomainRestriction a b o = o ≡ Undefined
NumbersOutcome RangeRestriction a b o = o ≡ Undefined
NumbersOutcome DomainSubtraction a b o = o ≡ Undefined
NumbersOutcome RangeSubtraction a b o = o ≡ Undefined

-- what the relation says of two numbers, if it is one of order
abbrev pub AreOrdered : Relation → ℤ → ℤ → Type 0
AreOrdered relation.Less m n = m <ℤ n
AreOrdered relation.AtMost m n = m ≤ℤ n
AreOrdered relation.Greater m n = n <ℤ m
AreOrdered relation.AtLeast m n = n ≤ℤ m
AreOrdered relation.Equal m n = ⊥
AreOrdered relation.NotEqual m n = ⊥
AreOrdered relation.Member m n = ⊥
AreOrdered relation.NotMember m n = ⊥
AreOrdered relation.Subset m n = ⊥
AreOrdered relation.ProperSubset m n = ⊥

-- the number is in an infinite set
abbrev pub IsFrom : Infinite → ℤ → Type 0
IsFrom Num n = Unit {0}
IsFrom Nat n = pos 0 ≤ℤ n
IsFrom Nat1 n = pos 1 ≤ℤ n
