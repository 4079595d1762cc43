-- Which predicates some row of a schema's components makes other than False.
use Rattle.std.specs.Prelude.{◌⊎◌, List, [], ◌∷◌, Option}
use Rattle.zf_why.specs.Prelude.{AllByRecursion, Comp, ResolvedTree, sets_of, Value, Environment, in_row, IsTruth, first_held, IsHeld, IsInSets, later_held}
use Rattle.zf_value.specs.declared.value.Truth.TheVariants.{True, Out}

-- the value is in the component's range: it is a member of all its declared sets, and the one that is held, if one is
abbrev pub IsInHeldRange : Environment → Comp → (held : Option Value) → Value → Type 0
IsInHeldRange e c held v = IsInSets e (sets_of c.sets) v × IsHeld held v

-- a value of the range of each component
abbrev pub IsHeldRow : Environment → List Comp → (held : List (Option Value)) → List Value → Type 0
IsHeldRow e [] held [] = Unit {0}
IsHeldRow e [] held (v ∷ row) = ⊥
IsHeldRow e (c ∷ cs) held [] = ⊥
IsHeldRow e (c ∷ cs) held (v ∷ row) = IsInHeldRange e c (first_held held) v × IsHeldRow e cs (later_held held) row

-- the predicate is not False in the row: it is True, or out of bounds
abbrev pub IsAllowed : Environment → (row : List Value) → ResolvedTree → Type 0
IsAllowed e row p = IsTruth (in_row e row) p True ⊎ IsTruth (in_row e row) p Out

-- some row makes all of these predicates other than False
pub record HasRow (e : Environment) (cs : List Comp) (held : List (Option Value)) (ps : List ResolvedTree) : Type 0 where
  pub row : List Value
  pub within : IsHeldRow e cs held row
  pub allowed : AllByRecursion (IsAllowed e row) ps

-- they rule out everything
abbrev pub RuleOut : Environment → List Comp → (held : List (Option Value)) → List ResolvedTree → Type 0
RuleOut e cs held ps = HasRow e cs held ps → ⊥
