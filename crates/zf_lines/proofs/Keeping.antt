-- Slots, with the text of a place in each that is filled.
use Rattle.zf_lines.proofs.Prelude.{◌++◌, ◌∷◌, ◌≡◌, ◌⊎◌, [], ap, inl, inr, length, List, None, Option, refl, Some, subst, suc, zero, ℕ, set, slice_get, AreTexts}
use Rattle.zf_lines.specs.declared.column.Kept.{Kept}

-- what stands at a place after one more, and after a change
pub at_push : {A : Type 0} (xs : List A) (y z : A) (n : ℕ) → slice_get (xs ++ y ∷ []) n ≡ Some z → (slice_get xs n ≡ Some z) ⊎ ((n ≡ length xs) × (y ≡ z))
at_push [] y z zero e = inr (refl, (cc))
at_push [] y z (suc n) e = (cc)
at_push (x ∷ xs) y z zero e = inl e
at_push (x ∷ xs) y z (suc n) e = elim (at_push xs y z n e) [ inl there ↦ inl there | inr here ↦ inr (ap suc here.0, here.1) ]

pub at_set : {A : Type 0} (xs : List A) (i : ℕ) (y z : A) (n : ℕ) → slice_get (set xs i y) n ≡ Some z → (slice_get xs n ≡ Some z) ⊎ ((n ≡ i) × (y ≡ z))
at_set [] i y z n e = inl e
at_set (x ∷ xs) zero y z zero e = inr (refl, (cc))
at_set (x ∷ xs) zero y z (suc n) e = inl e
at_set (x ∷ xs) (suc i) y z zero e = inl e
at_set (x ∷ xs) (suc i) y z (suc n) e = elim (at_set xs i y z n e) [ inl there ↦ inl there | inr here ↦ inr (ap suc here.0, here.1) ]

module _ (f : ℕ → List ℕ) where
  pub none_kept : (slots : List (Option Kept)) → slots ≡ [] → AreTexts f slots
  unfolding AreTexts
  none_kept slots e n k h = let no : slice_get {X = Option Kept} [] n ≡ Some (Some k) = subst (λ s. slice_get s n ≡ Some (Some k)) e h in absurd (nowhere n no) where
    nowhere : (n : ℕ) → slice_get {X = Option Kept} [] n ≡ Some (Some k) → ⊥
    nowhere zero h = (cc)
    nowhere (suc n) h = (cc)

  pub one_more_slot : (slots : List (Option Kept)) → AreTexts f slots → AreTexts f (slots ++ None ∷ [])
  unfolding AreTexts
  one_more_slot slots h n k e = elim (at_push slots None (Some k) n e) [ inl at ↦ h n k at | inr other ↦ let e : ◌≡◌ {A = Option Kept} None (Some k) = other.1 in (cc) ]

  pub one_more_text : (slots : List (Option Kept)) (i : ℕ) (k : Kept) → AreTexts f slots → k.text ≡ f k.place → AreTexts f (set slots i (Some k))
  unfolding AreTexts
  one_more_text slots i k h is n m e = elim (at_set slots i (Some k) (Some m) n e) [
    | inl at ↦ h n m at
    | inr same ↦ let e : Some k ≡ Some m = same.1 in let s : k ≡ m = (cc) in subst (λ (x : Kept). x.text ≡ f x.place) s is
  ]

  pub found : (slots : List (Option Kept)) (n : ℕ) (k : Kept) → AreTexts f slots → slice_get slots n ≡ Some (Some k) → k.text ≡ f k.place
  unfolding AreTexts
  found slots n k h e = h n k e
