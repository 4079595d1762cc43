-- Candidates of an expression: the place of its value where all that it needs is bound, else those that there are with each value of one component more.
use Rattle.zf_enum.proofs.Prelude.{◌++◌, ◌+◌, ◌<◌, ◌∙◌, ◌∷◌, ◌≡◌, ◌≤◌, [], ap₂, arith, get_or, length, length-append, List, refl, Some, subst, suc, sym, take, true, zero, ℕ, ⊎_elim, cases_Bool, cases_lt, false≢true, slice_get, AreWithin-push, length-picked, nth-at, picked-push, AreWithin, picked, IsRowOf, StaysIn, Outcome, Is, Out, Undefined, Value, ResolvedTree, Environment, in_row, HasOutcome, AreCandidates, GoesOn, IsKept, due, uses, follows_outcome}
use Rattle.std.proofs.Math.Seq.{take-append_seam}
use Rattle.zf_walk.proofs.Order.{IsNth}
use Rattle.zf_enum.specs.declared.candidates.Tie.{Tie}
use Rattle.zf_enum.specs.declared.candidates.Tie.TheVariants as tie
use Rattle.zf_enum.proofs.Fixed.{get_front, get_next, uses_below}

-- ---- what is gathered stays

kept_more : (n : Tie) (o : Outcome) (range : List Value) (xs ys : List ℕ) → StaysIn xs ys → IsKept n o range xs → IsKept n o range ys
kept_more tie.Value (Is v) range xs ys stay h = λ i at. stay i (h i at)
kept_more tie.Value Undefined range xs ys stay h = tt
kept_more tie.Value Out range xs ys stay h = absurd h
kept_more tie.Members (Is s) range xs ys stay h = λ v m i at. stay i (h v m i at)
kept_more tie.Members Undefined range xs ys stay h = absurd h
kept_more tie.Members Out range xs ys stay h = absurd h

pub stays_on : (xs ys zs : List ℕ) → StaysIn xs ys → StaysIn ys zs → StaysIn xs zs
stays_on xs ys zs one two i h = two i (one i h)

-- ---- one value more

pub within_push : (ranges : List (List Value)) (places : List ℕ) (i : ℕ) → AreWithin ranges places → length places < length ranges
    → i < length (get_or ranges (length places) []) → AreWithin ranges (places ++ i ∷ [])
within_push ranges places i within near there = let n = nth-at (get_or ranges (length places) []) i there in AreWithin-push ranges places i n.0 within near n.1

pub row_value : (ranges : List (List Value)) (row : List Value) (k : ℕ) → IsRowOf ranges row → k < length ranges → (i : ℕ) × (v : Value) × IsNth (get_or ranges k []) i v × (slice_get row k ≡ Some v)
row_value [] row k m l = absurd (omega arith)
row_value (r ∷ ranges) [] k m l = absurd m
row_value (r ∷ ranges) (v ∷ row) zero m l = (m.0.0, v, record { within = m.0.1; is = m.0.2 }, refl)
row_value (r ∷ ranges) (v ∷ row) (suc k) m l = row_value ranges row k m.1 (omega arith)

goes_on : (t : ResolvedTree) (front : List Value) (v : Value) (row : List Value) → GoesOn t front row
    → (uses t (length front) ≡ true → slice_get row (length front) ≡ Some v) → GoesOn t (front ++ v ∷ []) row
goes_on t front v row on here k l u =
    ⊎_elim (λ less. sym (get_front front (v ∷ []) k less) ∙ on k less u)
    (λ more.
    let long = length-append front (v ∷ []) in
    let last : length front ≡ k = omega (arith, l, more, long) in
    get_next front [] v k (sym last) ∙ sym (subst (λ n. slice_get row n ≡ Some v) last (here (subst (λ n. uses t n ≡ true) (sym last) u))))
    (cases_lt k (length front))

-- what is left where the place more is taken off again
pub as_before : (places more told left : List ℕ) (place count : ℕ) → more ≡ places ++ place ∷ [] → told ≡ more → left ≡ take count told → count ≡ length places → left ≡ places
as_before places more told left place count pushed same cut long = cut ∙ ap₂ take long (same ∙ pushed) ∙ take-append_seam places (place ∷ [])

module _ (n : Tie) (e : Environment) (t : ResolvedTree) (ranges : List (List Value)) (range : List Value) where
  pub candidates_more : (front : List Value) (xs ys : List ℕ) → StaysIn xs ys → AreCandidates n e t ranges front range xs → AreCandidates n e t ranges front range ys
  candidates_more front xs ys stay h row is on = let r = h row is on in (r.0, r.1, kept_more n r.0 range xs ys stay r.2)

  pub one_candidate : (front : List Value) (xs : List ℕ) (o : Outcome) → due t ≤ length front → HasOutcome (in_row e front) t o → IsKept n o range xs → AreCandidates n e t ranges front range xs
  one_candidate front xs o bound h kept row is on = (o, follows_outcome e front row t o (λ k u. on k (let b = uses_below t k u in omega (arith, b, bound)) u) h, kept)

  -- each of the first places of the next component was tried
  abbrev pub TriedUpTo : List ℕ → ℕ → List ℕ → Type 0
  TriedUpTo places end xs = (j : ℕ) → j < end → AreCandidates n e t ranges (picked ranges (places ++ j ∷ [])) range xs

  pub one_tried : (places : List ℕ) (end : ℕ) (xs ys : List ℕ) → StaysIn xs ys → TriedUpTo places end xs
      → AreCandidates n e t ranges (picked ranges (places ++ end ∷ [])) range ys → TriedUpTo places (end + 1) ys
  one_tried places end xs ys stay before this j l =
      ⊎_elim (λ less. candidates_more (picked ranges (places ++ j ∷ [])) xs ys stay (before j less))
      (λ more. let last : end ≡ j = omega (arith, l, more) in subst (λ m. AreCandidates n e t ranges (picked ranges (places ++ m ∷ [])) range ys) last this)
      (cases_lt j end)

  -- where each value of the next component was tried, or one where the expression doesn't use it
  pub all_tried : (places xs : List ℕ) (end : ℕ) → AreWithin ranges places → length places < length ranges
      → (uses t (length places) ≡ true → end ≡ length (get_or ranges (length places) [])) → (0 < length (get_or ranges (length places) []) → 0 < end)
      → ((j : ℕ) → j < end → AreCandidates n e t ranges (picked ranges (places ++ j ∷ [])) range xs) → AreCandidates n e t ranges (picked ranges places) range xs
  all_tried places xs end within near all some h row is on =
      let front = picked ranges places in
      let long : length front ≡ length places = length-picked ranges places within in
      let column = get_or ranges (length places) [] in
      let r = row_value ranges row (length places) is near in
      let i = r.0 in
      let v = r.1 in
      let at = r.2 in
      let there = at.within in
      ⊎_elim
      (λ used.
      let whole = all used in
      h i (omega (arith, whole, there)) row is
      (subst (λ vs. GoesOn t vs row) (sym (picked-push ranges places i v within near at))
      (goes_on t front v row on (λ u. subst (λ n. slice_get row n ≡ Some v) (sym long) r.3))))
      (λ unused.
      let none : 0 < length column = omega (arith, there) in
      let first = nth-at column 0 none in
      h 0 (some none) row is
      (subst (λ vs. GoesOn t vs row) (sym (picked-push ranges places 0 first.0 within near first.1))
      (goes_on t front first.0 row on (λ u. absurd (false≢true (sym unused ∙ subst (λ n. uses t n ≡ true) long u))))))
      (cases_Bool (uses t (length places)))
