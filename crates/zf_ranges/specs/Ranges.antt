-- The ranges of a schema's components where some values are held, and which components have a declared set that is out.
use Rattle.std.specs.Prelude.{◌≡◌, ◌↔◌, ℕ, ◌<◌, List, [], ◌∷◌, Option, Some, None, slice_get, IfSome}
use Rattle.zf_ranges.specs.Prelude.{Comp, sets_of, Value, IsAscending, IsMember, Environment}
use Rattle.zf_ranges.specs.DeclaredSets.{IsInSets, IsOneOut}

-- where a value is held it is this one alone
abbrev pub IsHeld : Option Value → Value → Type 0
IsHeld held v = IfSome held (λ w. v ≡ w)

-- the ascending list of exactly the values in the component's range: those that are members of its declared sets, or of them the one that is held
pub record IsComponentRange (e : Environment) (c : Comp) (held : Option Value) (xs : List Value) : Type 0 where
  pub ascending : IsAscending xs
  pub members : (v : Value) → IsMember v xs ↔ (IsInSets e (sets_of c.sets) v × IsHeld held v)

-- what is held of the first component, and of the others; where the list ends nothing is
abbrev pub first_held : List (Option Value) → Option Value
first_held [] = None
first_held (h ∷ held) = h

abbrev pub later_held : List (Option Value) → List (Option Value)
later_held [] = []
later_held (h ∷ held) = held

abbrev pub AreRanges : Environment → List Comp → (held : List (Option Value)) → List (List Value) → Type 0
AreRanges e [] held [] = Unit {0}
AreRanges e [] held (xs ∷ ranges) = ⊥
AreRanges e (c ∷ cs) held [] = ⊥
AreRanges e (c ∷ cs) held (xs ∷ ranges) = IsComponentRange e c (first_held held) xs × AreRanges e cs (later_held held) ranges

-- the component at this place has a declared set that is out
abbrev pub IsOutAt : Environment → List Comp → ℕ → Type 0
IsOutAt e cs place = (c : Comp) × (slice_get cs place ≡ Some c) × IsOneOut e (sets_of c.sets)

abbrev pub IsNoneOut : Environment → List Comp → Type 0
IsNoneOut e cs = (place : ℕ) → IsOutAt e cs place → ⊥

pub record IsFirstOut (e : Environment) (cs : List Comp) (place : ℕ) : Type 0 where
  pub here : IsOutAt e cs place
  pub first : (earlier : ℕ) → earlier < place → IsOutAt e cs earlier → ⊥
