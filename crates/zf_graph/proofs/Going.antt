-- A search goes on in a part: what it has passed begins a turn, whole parts make one.
use Rattle.zf_graph.proofs.Prelude.{◌++◌, ◌+◌, ◌∙◌, ◌∷◌, ◌≡◌, [], ap, arith, inl, inr, List, map, refl, Some, subst, suc, sym, take, zero, ℕ, append-nil, append_assoc, Contains, slice_get, AreFinds, AreFirst, BeginsParts, BreaksParts, EachHolds, Edge, HasParts, Searched}
use Rattle.zf_graph.proofs.Places.{none_some, one_some}

module _ {N L O X : Type 0} (s : Searched N L O X) (a : N) where
  abbrev Edges : Type 0
  Edges = List (Edge N L)

  -- the parts before a place, and that which stands there
  parted : (os : List O) (k : ℕ) (o : O) → slice_get os k ≡ Some o → take (suc k) os ≡ take k os ++ o ∷ []
  parted [] k o at = absurd (none_some o at)
  parted (p ∷ os) zero o at = ap (λ q. q ∷ []) (one_some p o at)
  parted (p ∷ os) (suc k) o at = ap (λ q. p ∷ q) (parted os k o at)

  -- one more whole part
  pub one_more_part : (n : ℕ) (os : List O) (k : ℕ) (o : O) (es : Edges) (xs : List X) → slice_get os k ≡ Some o → HasParts s a n (take k os) es → AreFinds s a o xs → EachHolds s xs
      → HasParts s a n (take (suc k) os) (es ++ map (s.edge (n + k) o) xs)
  one_more_part n [] k o es xs at h all hold = absurd (none_some o at)
  one_more_part n (p ∷ os) zero o es xs at h all hold =
      let same : o ≡ p = sym (one_some p o at) in
      let number : n + 0 ≡ n = omega arith in (
        xs,
        [],
        subst (λ q. AreFinds s a q xs) same all,
        hold,
        refl,
        ap (λ w. w ++ map (s.edge (n + 0) o) xs) h ∙ ap (λ m. map (s.edge m o) xs) number
            ∙ ap (λ q. map (s.edge n q) xs) same ∙ sym (append-nil (map (s.edge n p) xs)),
      )
  one_more_part n (p ∷ os) (suc k) o es xs at (ys, rest, whole, held, later, is) all hold =
      let number : n + suc k ≡ n + 1 + k = omega arith in (
        ys,
        rest ++ map (s.edge (n + 1 + k) o) xs,
        whole,
        held,
        one_more_part (n + 1) os k o rest xs at later all hold,
        ap (λ m. es ++ map (s.edge m o) xs) number ∙ ap (λ w. w ++ map (s.edge (n + 1 + k) o) xs) is ∙ append_assoc (map (s.edge n p) ys) rest (map (s.edge (n + 1 + k) o) xs),
      )

  -- the parts before a place, and the first edges of that which stands there, begin the turn
  pub begins_in_part : (n : ℕ) (os : List O) (k : ℕ) (o : O) (es : Edges) (xs : List X) → slice_get os k ≡ Some o → HasParts s a n (take k os) es → AreFirst s a o xs → EachHolds s xs
      → BeginsParts s a n os (es ++ map (s.edge (n + k) o) xs)
  begins_in_part n [] k o es xs at h first hold = absurd (none_some o at)
  begins_in_part n (p ∷ os) zero o es xs at h first hold =
      let same : o ≡ p = sym (one_some p o at) in
      let number : n + 0 ≡ n = omega arith in
      inl (xs, subst (λ q. AreFirst s a q xs) same first, hold, ap (λ w. w ++ map (s.edge (n + 0) o) xs) h ∙ ap (λ m. map (s.edge m o) xs) number ∙ ap (λ q. map (s.edge n q) xs) same)
  begins_in_part n (p ∷ os) (suc k) o es xs at (ys, rest, whole, held, later, is) first hold =
      let number : n + suc k ≡ n + 1 + k = omega arith in
      inr (
        ys,
        rest ++ map (s.edge (n + 1 + k) o) xs,
        whole,
        held,
        begins_in_part (n + 1) os k o rest xs at later first hold,
        ap (λ m. es ++ map (s.edge m o) xs) number ∙ ap (λ w. w ++ map (s.edge (n + 1 + k) o) xs) is ∙ append_assoc (map (s.edge n p) ys) rest (map (s.edge (n + 1 + k) o) xs),
      )

  -- the same where the next can't be decided
  pub breaks_in_part : (n : ℕ) (os : List O) (k : ℕ) (o : O) (es : Edges) (xs : List X) (x : X) → slice_get os k ≡ Some o → HasParts s a n (take k os) es
      → AreFirst s a o (xs ++ x ∷ []) → EachHolds s xs → s.IsOut x → BreaksParts s a n os (es ++ map (s.edge (n + k) o) xs) (s.stop o x)
  breaks_in_part n [] k o es xs x at h first hold out = absurd (none_some o at)
  breaks_in_part n (p ∷ os) zero o es xs x at h first hold out =
      let same : o ≡ p = sym (one_some p o at) in
      let number : n + 0 ≡ n = omega arith in
      inl (
        xs,
        x,
        subst (λ q. AreFirst s a q (xs ++ x ∷ [])) same first,
        hold,
        out,
        ap (λ w. w ++ map (s.edge (n + 0) o) xs) h ∙ ap (λ m. map (s.edge m o) xs) number ∙ ap (λ q. map (s.edge n q) xs) same,
        ap (λ q. s.stop q x) same,
      )
  breaks_in_part n (p ∷ os) (suc k) o es xs x at (ys, rest, whole, held, later, is) first hold out =
      let number : n + suc k ≡ n + 1 + k = omega arith in
      inr (
        ys,
        rest ++ map (s.edge (n + 1 + k) o) xs,
        whole,
        held,
        breaks_in_part (n + 1) os k o rest xs x at later first hold out,
        ap (λ m. es ++ map (s.edge m o) xs) number ∙ ap (λ w. w ++ map (s.edge (n + 1 + k) o) xs) is ∙ append_assoc (map (s.edge n p) ys) rest (map (s.edge (n + 1 + k) o) xs),
      )

  -- nothing begins it too
  pub begins_with_none : (n : ℕ) (os : List O) → ((o : O) → AreFirst s a o []) → BeginsParts s a n os []
  begins_with_none n [] first = refl
  begins_with_none n (o ∷ os) first = inl ([], first o, (λ x (m : Contains [] x). absurd (omega (arith, m.1))), refl)
