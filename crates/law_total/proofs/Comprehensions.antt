-- What a comprehension builds is a set, or is out.
use Rattle.law_total.proofs.Prelude.{◌≡◌, ◌⊎◌, inl, inr, List, refl, subst, AreFrom, IsSetOf, Outcome, Is, Out, Undefined, Truth, SetOf, Value, IsBuilt, IsBuiltBy, IsBuiltOver, IsOutOfBounds, IsWithinBounds, one_out, one_undefined, Several, values}
use Rattle.zf_value.specs.declared.value.Truth.TheVariants as truth
use Rattle.law_total.proofs.Listed.{HasSome, one_or_all, Listed, listed_same, listed_none, listed_one, listed_some}
use Rattle.law_total.proofs.Sets.{set_of}
use Rattle.law_total.proofs.Values.{listed_rows}

-- a row is out of bounds or within
judged : (F : List Value → Truth → Type 0) (T : List Value → Outcome → Type 0) (vs : List Value) (u : Truth) (o : Outcome) → F vs u → T vs o → IsOutOfBounds F T vs ⊎ IsWithinBounds F T vs
judged F T vs truth.False o f g = inr (inl f)
judged F T vs truth.Out o f g = inl (inl f)
judged F T vs truth.True (Is z) f g = inr (inr (f, inr (z, g)))
judged F T vs truth.True Undefined f g = inr (inr (f, inl g))
judged F T vs truth.True Out f g = inl (inr (f, g))

-- what a row gives
module _ (F : Truth → Type 0) (T : Outcome → Type 0) (one_truth : (t u : Truth) → F t → F u → t ≡ u) (one_outcome : (o p : Outcome) → T o → T p → o ≡ p) where
  given : (u : Truth) (o : Outcome) → F u → T o → Listed (λ z. F truth.True × T (Is z))
  given truth.True (Is y) f g = listed_same (listed_one y) (λ z. (λ e. (f, subst (λ x. T (Is x)) e g), λ h. let e = one_outcome (Is y) (Is z) g h.1 in (cc)))
  given truth.True Undefined f g = listed_none (λ z. F truth.True × T (Is z)) (λ z h. let e = one_outcome _ _ g h.1 in (cc))
  given truth.True Out f g = listed_none (λ z. F truth.True × T (Is z)) (λ z h. let e = one_outcome _ _ g h.1 in (cc))
  given truth.False o f g = listed_none (λ z. F truth.True × T (Is z)) (λ z h. let e = one_truth _ _ f h.0 in (cc))
  given truth.Out o f g = listed_none (λ z. F truth.True × T (Is z)) (λ z h. let e = one_truth _ _ f h.0 in (cc))

module _ (F : List Value → Truth → Type 0) (T : List Value → Outcome → Type 0) (truth_of : (vs : List Value) → HasSome (F vs)) (outcome_of : (vs : List Value)
    → HasSome (T vs)) (one_truth : (vs : List Value) (t u : Truth) → F vs t → F vs u → t ≡ u) (one_outcome : (vs : List Value) (o p : Outcome) → T vs o
    → T vs p → o ≡ p) where
  listed_built : (R : List Value → Type 0) → Listed R → Listed (IsBuiltBy R F T)
  listed_built R rows =
      listed_same (listed_some (λ vs z. F vs truth.True × T vs (Is z)) rows
      (λ vs. given (F vs) (T vs) (one_truth vs) (one_outcome vs) (truth_of vs).0 (outcome_of vs).0 (truth_of vs).1 (outcome_of vs).1)) (λ z. (
        λ h. (h.0, h.1, h.2.0, h.2.1),
        λ h. (h.0, h.1, (h.2, h.3)),
      ))

  all_within : (R : List Value → Type 0) → ((vs : List Value) → R vs → IsWithinBounds F T vs) → (o : Outcome) → IsSetOf (IsBuiltBy R F T) o → HasSome (IsBuiltOver R F T)
  all_within R w (Is v) h = (Is v, (w, h))
  all_within R w Undefined h = absurd h
  all_within R w Out h = (Out, inr h)

  some_built_over : (R : List Value → Type 0) → Listed R → HasSome (IsBuiltOver R F T)
  some_built_over R rows = elim (one_or_all (IsOutOfBounds F T) (IsWithinBounds F T) rows (λ vs r. judged F T vs (truth_of vs).0 (outcome_of vs).0 (truth_of vs).1 (outcome_of vs).1)) [
    | inl h ↦ (Out, inl h)
    | inr w ↦ let s = set_of (listed_built R rows) in all_within R w s.0 s.1
  ]

  pub some_built : (s : Several) → HasSome (IsBuilt s F T)
  some_built one_out = (Out, refl)
  some_built one_undefined = (Is (SetOf _), refl)
  some_built (values ss) = some_built_over (λ vs. AreFrom vs ss) (listed_rows ss)
