-- Minimal sets of predicates that can't hold together, those that rule out everything alone, and components without a value.
use Rattle.std.specs.Prelude.{◌≡◌, ◌⊎◌, ℕ, Bool, List, [], ◌∷◌, ◌++◌, length, drop, slice_get, Option, Some}
use Rattle.zf_why.specs.Prelude.{chosen_of, IsChosen, IsLeft, IsMinimal, Comp, ResolvedTree, Value, Environment, first_held}
use Rattle.zf_why.specs.Rows.{IsInHeldRange, HasRow, RuleOut}

-- P holds of what is chosen, and Q of what is left
pub record ArePicked {A : Type 0} (P Q : ℕ → A → Type 0) (xs : List A) (chosen : List Bool) : Type 0 where
  pub each : length chosen ≡ length xs
  pub picked : (i : ℕ) (x : A) → slice_get xs i ≡ Some x → (IsChosen chosen i × P i x) ⊎ (IsLeft chosen i × Q i x)

-- Beside the given predicates the chosen ones rule out everything, and without any one of them some row is there.
abbrev pub IsCore : Environment → List Comp → (held : List (Option Value)) → (given ps : List ResolvedTree) → (chosen : List Bool) → Type 0
IsCore e cs held given ps = IsMinimal (λ m. HasRow e cs held (given ++ chosen_of ps m)) (length ps)

-- chosen are exactly the predicates that rule out everything alone
abbrev pub AreAlone : Environment → List Comp → (held : List (Option Value)) → List ResolvedTree → (chosen : List Bool) → Type 0
AreAlone e cs held = ArePicked (λ i p. RuleOut e cs held (p ∷ [])) (λ i p. HasRow e cs held (p ∷ []))

abbrev pub HasNoValue : Environment → (held : List (Option Value)) → ℕ → Comp → Type 0
HasNoValue e held i c = (v : Value) → IsInHeldRange e c (first_held (drop i held)) v → ⊥

abbrev pub HasValue : Environment → (held : List (Option Value)) → ℕ → Comp → Type 0
HasValue e held i c = (v : Value) × IsInHeldRange e c (first_held (drop i held)) v

-- chosen are exactly the components whose range is empty
abbrev pub AreEmpty : Environment → List Comp → (held : List (Option Value)) → (chosen : List Bool) → Type 0
AreEmpty e cs held = ArePicked (HasNoValue e held) (HasValue e held) cs
