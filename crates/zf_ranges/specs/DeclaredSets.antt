-- What is a member of the declared sets of a component, and which of them are out.
use Rattle.std.specs.Prelude.{◌⊎◌, ℕ, Bool, true, false, Option, Some, None}
use Rattle.zf_ranges.specs.Prelude.{carrier, DeclaredSet, DeclaredSets, has_numbers, no_sets, plain, ResolvedTree, set, sides, Ty, Value, Outcome, Is, Out, IsMember, members, Environment, globally, HasOutcome, infinite_in, IsCarrier, IsOfType, IsIn}
use Rattle.zf_term.specs.declared.extent.Infinite.{Infinite}

-- a member of the set that has such an outcome; what is undefined has no members
abbrev pub IsInOne : (Outcome → Type 0) → Value → Type 0
IsInOne P v = (w : Value) × P (Is w) × IsMember v (members w)

-- an infinite set only filters
abbrev pub IsInPlain : Environment → Option Infinite → ResolvedTree → Value → Type 0
IsInPlain e (Some s) t v = IsIn s v
IsInPlain e None t v = IsInOne (HasOutcome (globally e) t) v

-- so does a type of which numbers are parts, where these have no end
abbrev pub IsInCarrier : Environment → (numbers : Bool) → Ty → Value → Type 0
IsInCarrier e true t v = IsOfType e t v
IsInCarrier e false t v = IsInOne (IsCarrier e t) v

-- whether numbers without an end are parts of a type, where n is the greatest number, if there is one
abbrev pub has_endless : (n : Option ℕ) → Ty → Bool
has_endless None t = has_numbers t
has_endless (Some n) t = false

abbrev mutual
  pub IsInSet : Environment → DeclaredSet → Value → Type 0
  IsInSet e (plain t) v = IsInPlain e (infinite_in e t) t v
  IsInSet e (carrier t) v = IsInCarrier e (has_endless e.numbers t) t v
  IsInSet e (sides ds es) v = IsInSets e ds v ⊎ IsInSets e es v

  -- in each of them
  pub IsInSets : Environment → DeclaredSets → Value → Type 0
  IsInSets e no_sets v = Unit {0}
  IsInSets e (set d ds) v = IsInSet e d v × IsInSets e ds v

abbrev pub IsPlainOut : Environment → Option Infinite → ResolvedTree → Type 0
IsPlainOut e (Some s) t = ⊥
IsPlainOut e None t = HasOutcome (globally e) t Out

abbrev pub IsCarrierOut : Environment → (numbers : Bool) → Ty → Type 0
IsCarrierOut e true t = ⊥
IsCarrierOut e false t = IsCarrier e t Out

abbrev mutual
  pub IsSetOut : Environment → DeclaredSet → Type 0
  IsSetOut e (plain t) = IsPlainOut e (infinite_in e t) t
  IsSetOut e (carrier t) = IsCarrierOut e (has_endless e.numbers t) t
  IsSetOut e (sides ds es) = IsOneOut e ds ⊎ IsOneOut e es

  pub IsOneOut : Environment → DeclaredSets → Type 0
  IsOneOut e no_sets = ⊥
  IsOneOut e (set d ds) = IsSetOut e d ⊎ IsOneOut e ds
