-- What declared sets leave of values. No public clause rests on this.
use Rattle.std.specs.Prelude.{◌≡◌, ◌⊎◌, ◌↔◌, ℕ, ◌<◌, true, List, [], ◌∷◌, ◌++◌, length, get_or, Option}
use Rattle.zf_ranges.specs.Prelude.{bounds, DeclaredSet, DeclaredSets, Defined, set_of, Value, IsAscending, IsMember, members, Outcome, Is, Undefined, IsInDescribed, IsWithin, Environment}
use Rattle.zf_term.specs.declared.schema.Domain.{Domain}
use Rattle.zf_value.specs.declared.value.Outcome.TheVariants as outcome
use Rattle.zf_ranges.specs.declared.lack.Lack.{Lack}
use Rattle.zf_ranges.specs.declared.lack.Lack.TheVariants.{Out, OutOfMemory}
use Rattle.zf_outcome.specs.declared.described.Described.{Described}
use Rattle.zf_ranges.specs.DeclaredSets.{IsInSet, IsInSets, IsSetOut, IsOneOut}
use Rattle.zf_ranges.specs.Ranges.{IsHeld}

-- the ascending list of exactly the values that pass
pub record Lists (P : Value → Type 0) (xs : List Value) : Type 0 where
  pub ascending : IsAscending xs
  pub members : (v : Value) → IsMember v xs ↔ P v

-- the value is put after the others if it passes
unfoldable pub Grows : (Value → Type 0) → Value → List Value → List Value → Type 0
Grows P x old new = (P x × (new ≡ old ++ x ∷ [])) ⊎ ((P x → ⊥) × (new ≡ old))

-- the values of xs that are members of the declared set, which is not out
abbrev pub Narrows : Environment → DeclaredSet → List Value → List Value → Type 0
Narrows e d xs ys = Lists (λ v. IsMember v xs × IsInSet e d v) ys × (IsSetOut e d → ⊥)

-- the same of several
abbrev pub NarrowsAll : Environment → DeclaredSets → List Value → List Value → Type 0
NarrowsAll e ds xs ys = Lists (λ v. IsMember v xs × IsInSets e ds v) ys × (IsOneOut e ds → ⊥)

-- the values of a declared set that is not out
abbrev pub IsAllOf : Environment → DeclaredSet → List Value → Type 0
IsAllOf e d xs = Lists (IsInSet e d) xs × (IsSetOut e d → ⊥)

-- the values that are members of each of several, of which none is out
abbrev pub IsAllOfEach : Environment → DeclaredSets → List Value → Type 0
IsAllOfEach e ds xs = Lists (IsInSets e ds) xs × (IsOneOut e ds → ⊥)

-- the same where one value may be held
abbrev pub IsAllWith : Environment → DeclaredSets → Option Value → List Value → Type 0
IsAllWith e ds held xs = Lists (λ v. IsInSets e ds v × IsHeld held v) xs × (IsOneOut e ds → ⊥)

-- the outcome can be listed, as this
pub record IsListed (o : Outcome) (P : Value → Type 0) (xs : List Value) : Type 0 where
  pub within : o ≡ outcome.Out → ⊥
  pub lists : Lists P xs

-- the values of xs that are members of what is described, which is not out
abbrev pub Filters : Described → List Value → List Value → Type 0
Filters d xs ys = Lists (λ v. IsMember v xs × IsInDescribed d v) ys × IsWithin d

-- a member of the set that this is; what is undefined has none
abbrev pub IsIn : Outcome → Value → Type 0
IsIn (Is w) v = IsMember v (members w)
IsIn Undefined v = ⊥
IsIn outcome.Out v = ⊥

-- where values can't be listed this is so, unless memory ends
abbrev pub Tells : Lack → Type 0 → Type 0
Tells Out P = P
Tells OutOfMemory P = Unit {0}

-- the declared set at this place bounds
pub record BoundsAt (n : Option ℕ) (g : List Defined) (ds : List Domain) (place : ℕ) : Type 0 where
  pub within : place < length ds
  pub bounds : (x : Domain) → x ≡ get_or ds place x → bounds n g (set_of x) ≡ true
