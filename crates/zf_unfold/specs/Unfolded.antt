-- Predicates that say in a longer environment what others say. No public clause rests on this.
use Rattle.std.specs.Prelude.{◌≡◌, ◌↔◌, ℕ, suc, ◌≤◌, List, [], ◌∷◌, length, Some, slice_get}
use Rattle.zf_term.specs.{ResolvedTree}
use Rattle.zf_value.specs.declared.plain.Value.{Value}
use Rattle.zf_value.specs.declared.value.Outcome.{Outcome}
use Rattle.zf_value.specs.declared.value.Outcome.TheVariants.{Is, Undefined}
use Rattle.zf_value.specs.declared.value.Truth.{Truth}
use Rattle.zf_meaning.specs.{Environment, HasOutcome, in_row, IsTruth}
use Rattle.zf_lift.specs.{AreEach, IsLonger, Keeps, need}

-- e has n names, and f one more, which is undefined, and maybe further ones
pub record IsBase (n : ℕ) (e f : Environment) : Type 0 where
  pub longer : IsLonger e f
  pub count : n ≡ length e.outcomes
  pub globals : length e.globals ≤ n
  pub undefined : slice_get f.outcomes n ≡ Some Undefined

-- t has in each environment longer than f the truths that u has in e, and needs no more components
unfoldable pub IsUnfolded : Environment → Environment → ResolvedTree → ResolvedTree → Type 0
IsUnfolded f e t u = Keeps (need t) (need u) ((g : Environment) → IsLonger f g → (row : List Value) (a : Truth) → IsTruth (in_row g row) t a ↔ IsTruth (in_row e row) u a)

-- these values stand one after another from this place on
abbrev pub AreNamed : List Outcome → ℕ → List Value → Type 0
AreNamed os m [] = Unit {0}
AreNamed os m (v ∷ vs) = (slice_get os m ≡ Some (Is v)) × AreNamed os (suc m) vs

-- whatever e is, as long as these are its names: the term has this value in each row
unfoldable pub IsSetNamed : (n : ℕ) → Environment → ResolvedTree → Value → Type 0
IsSetNamed n f t s = (e : Environment) → IsBase n e f → (row : List Value) → HasOutcome (in_row e row) t (Is s)

-- each of them has the truths of the other at its place
abbrev pub AreAllUnfolded : Environment → Environment → List ResolvedTree → List ResolvedTree → Type 0
AreAllUnfolded f e = AreEach (IsUnfolded f e)
