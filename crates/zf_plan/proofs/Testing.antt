-- Leaves that are tested on a row, one after another.
use Rattle.zf_plan.proofs.Prelude.{◌+◌, ◌<◌, ◌∙◌, ◌≡◌, ◌⊎◌, arith, inl, inr, length, List, refl, subst, sym, ℕ, cases_eq, ◌≢◌, Conjuncts, Truth, False, Out, True, conjoined, slice_index}
use Rattle.zf_plan.specs.{AreNotFalse, ArePassed, Tests}

module _ {V : Type 0} (l : Conjuncts V) (row : List V) (leaves : List ℕ) (before : Truth) where
  one-more : (P : ℕ → Type 0) (i : ℕ) → ((k : ℕ) → k < i → P k) → P i → (k : ℕ) → k < i + 1 → P k
  one-more P i h p k m = elim (cases_eq k i) [ inl e ↦ subst P (sym e) p | inr ne ↦ h k (omega arith) ]

  pub passed-first : (t : Truth) → t ≡ before → t ≢ False → ArePassed l row leaves before 0 t
  passed-first True e ne = (sym e, λ k h. absurd (omega arith))
  passed-first Out e ne = ((λ k h. absurd (omega arith)), inl (sym e))
  passed-first False e ne = absurd (ne refl)

  pub not-false : (i : ℕ) (t : Truth) → ArePassed l row leaves before i t → AreNotFalse l row leaves i
  not-false i True h = λ k m. inl (h.1 k m)
  not-false i Out h = h.0
  not-false i False h = absurd h

  later : (i : ℕ) → (before ≡ Out) ⊎ (k : ℕ) × (k < i) × l.says (slice_index leaves k) row Out → (before ≡ Out) ⊎ (k : ℕ) × (k < i + 1) × l.says (slice_index leaves k) row Out
  later i (inl e) = inl e
  later i (inr w) = inr (w.0, omega (arith, w.1), w.2)

  pub passed-next : (i : ℕ) (all t : Truth) → ArePassed l row leaves before i all → l.says (slice_index leaves i) row t → conjoined all t ≢ False
      → ArePassed l row leaves before (i + 1) (conjoined all t)
  passed-next i True True h s ne = (h.0, one-more (λ k. l.says (slice_index leaves k) row True) i h.1 s)
  passed-next i True Out h s ne = (
    one-more (λ k. l.says (slice_index leaves k) row True ⊎ l.says (slice_index leaves k) row Out) i (λ k m. inl (h.1 k m)) (inr s),
    inr (i, omega arith, s),
  )
  passed-next i True False h s ne = absurd (ne refl)
  passed-next i Out True h s ne = (one-more (λ k. l.says (slice_index leaves k) row True ⊎ l.says (slice_index leaves k) row Out) i h.0 (inl s), later i h.1)
  passed-next i Out Out h s ne = (one-more (λ k. l.says (slice_index leaves k) row True ⊎ l.says (slice_index leaves k) row Out) i h.0 (inr s), later i h.1)
  passed-next i Out False h s ne = absurd (ne refl)
  passed-next i False t h s ne = absurd h

  -- the next leaf is False
  pub tests-false : (i : ℕ) (all t u : Truth) → ArePassed l row leaves before i all → l.says (slice_index leaves i) row t → u ≡ conjoined all t → u ≡ False
      → i < length leaves → Tests l row leaves before False (i + 1)
  unfolding Tests
  tests-false i True True u h s is e near = absurd (let z : True ≡ False = sym is ∙ e in cc)
  tests-false i True Out u h s is e near = absurd (let z : Out ≡ False = sym is ∙ e in cc)
  tests-false i True False u h s is e near = (i, refl, near, not-false i True h, s)
  tests-false i Out True u h s is e near = absurd (let z : Out ≡ False = sym is ∙ e in cc)
  tests-false i Out Out u h s is e near = absurd (let z : Out ≡ False = sym is ∙ e in cc)
  tests-false i Out False u h s is e near = (i, refl, near, not-false i Out h, s)
  tests-false i False t u h s is e near = absurd h

  -- no leaf is
  pub tests-all : (t : Truth) (n : ℕ) → n ≡ length leaves → ArePassed l row leaves before n t → Tests l row leaves before t n
  unfolding Tests
  tests-all True n e h = (e, h)
  tests-all Out n e h = (e, h)
  tests-all False n e h = absurd h
