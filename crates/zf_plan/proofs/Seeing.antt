-- What is known of leaves with each value of the next range.
use Rattle.zf_plan.proofs.Prelude.{◌++◌, ◌+◌, ◌<◌, ◌≤◌, ◌∙◌, ◌∷◌, ◌≡◌, ◌⊎◌, [], ap, arith, get_or, inl, inr, length, List, refl, replicate, set, subst, suc, sym, take, zero, ℕ, cases_eq, get_or-set_other, get_or-set_same, get_or_default, length-take-le, AreWithin, bound, HasLeavesWithin, HaveLeavesWithin, IsAt, leaf, path, Conjuncts, picked, Place, Tree, Truth, False, Out, True, slice_index, IsSeen, unseen, Seen, AreDue, AreLeaves, AreSeen, AreSeenOf, IsTold, seen_at}
use Rattle.zf_plan.proofs.Moving.{last-value}

module _ {V : Type 0} (l : Conjuncts V) (ranges : List (List V)) (places leaves : List ℕ) where
  pub seen-first : (seen : Seen) → ((i : ℕ) → IsSeen seen i False → ⊥) → AreSeenOf l ranges places leaves 0 seen
  seen-first seen none i False w h = absurd (none i h)
  seen-first seen none i True w h = λ k m. absurd (omega arith)
  seen-first seen none i Out w h = h

  -- with one leaf more
  pub seen-more : (n : ℕ) (all one new : Seen) → ((i : ℕ) → IsSeen new i False → IsSeen all i False ⊎ IsSeen one i False) → ((i : ℕ) → IsSeen new i True → IsSeen all i True × IsSeen one i True)
      → AreSeenOf l ranges places leaves n all → ((i : ℕ) (t : Truth) → AreWithin ranges (places ++ i ∷ []) → IsSeen one i t → l.says (slice_index leaves n) (picked ranges (places ++ i ∷ [])) t)
      → AreSeenOf l ranges places leaves (n + 1) new
  seen-more n all one new refuted held before here i False w h = elim (refuted i h) [
    | inl a ↦ let b = before i False w a in (b.0, omega (arith, b.1), b.2)
    | inr b ↦ (n, omega arith, here i False w b)
  ]
  seen-more n all one new refuted held before here i True w h = λ k m. elim (cases_eq k n) [
    | inl e ↦ subst (λ j. l.says (slice_index leaves j) (picked ranges (places ++ i ∷ [])) True) (sym e) (here i True w (held i h).1)
    | inr ne ↦ before i True w (held i h).0 k (omega arith)
  ]
  seen-more n all one new refuted held before here i Out w h = h

-- ---- one range more

module _ {V : Type 0} (l : Conjuncts V) (trees : List Tree) (ranges : List (List V)) (p : Place) (seen : Seen) (all : length p.seen.items ≡ length ranges)
    (near : p.depth < length ranges) (here : AreSeen l trees ranges (bound p) seen)
    (before : (j : ℕ) → j < p.depth → AreSeen l trees ranges (take j p.places.items) (seen_at p j)) where
  pub seen-all : (j : ℕ) → j ≤ p.depth → AreSeen l trees ranges (take j p.places.items) (get_or (set p.seen.items p.depth seen) j unseen)
  seen-all j low = elim (cases_eq j p.depth) [
    | inl e ↦
        let is : get_or (set p.seen.items p.depth seen) j unseen ≡ seen = ap (λ i. get_or (set p.seen.items p.depth seen) i unseen) e
        ∙ get_or-set_same p.seen.items p.depth seen unseen (omega (arith, all, near)) in
        subst (AreSeen l trees ranges (take j p.places.items)) (sym is) (subst (λ i. AreSeen l trees ranges (take i p.places.items) seen) (sym e) here)
    | inr ne ↦ subst (AreSeen l trees ranges (take j p.places.items)) (sym (get_or-set_other p.seen.items p.depth j seen unseen ne)) (before j (omega (arith, low, ne)))
  ]

pub unseen-all : (p : Place) (seen : Seen) (n : ℕ) → length p.seen.items ≡ n → p.depth < n → seen ≡ unseen → ((j : ℕ) → seen_at p j ≡ unseen) → (j : ℕ)
    → get_or (set p.seen.items p.depth seen) j unseen ≡ unseen
unseen-all p seen n all near none before j = elim (cases_eq j p.depth) [
  | inl e ↦ ap (λ i. get_or (set p.seen.items p.depth seen) i unseen) e ∙ get_or-set_same p.seen.items p.depth seen unseen (omega (arith, all, near)) ∙ none
  | inr ne ↦ get_or-set_other p.seen.items p.depth j seen unseen ne ∙ before j
]

-- at first nothing is known
pub unseen-first : (ss : List Seen) (n : ℕ) → ss ≡ replicate n unseen → (j : ℕ) → get_or ss j unseen ≡ unseen
unseen-first ss n is j = ap (λ xs. get_or xs j unseen) is ∙ none n j where
  none : (n j : ℕ) → get_or (replicate n unseen) j unseen ≡ unseen
  none zero j = refl
  none (suc n) zero = refl
  none (suc n) (suc j) = none n j

-- the leaves that are due there
pub leaves-due : {V : Type 0} (l : Conjuncts V) (trees : List Tree) → HaveLeavesWithin l.number trees → (k : ℕ) (leaves : List ℕ) → AreDue l trees k (length trees) leaves → AreLeaves l k leaves
leaves-due l trees within k leaves due i near =
    let at = due.only (get_or leaves i 0) (i, near, get_or_default leaves i (get_or leaves i 0) 0 near) in
    (subst (HasLeavesWithin l.number) at.2.0 (within at.0 (leaf 0) at.1), at.2.1)

-- what is known of the last value of a place
module _ {V : Type 0} (l : Conjuncts V) (trees : List Tree) (ranges : List (List V)) (p : Place) (at : IsAt ranges p) (seen : (k : ℕ) → k < p.depth
    → AreSeen l trees ranges (take k p.places.items) (seen_at p k)) where
  pub told-path : (k : ℕ) → p.depth ≡ k + 1 → (t : Truth) → IsSeen (seen_at p k) (get_or p.places.items k 0) t → IsTold l trees (path ranges p) p.depth t
  told-path k d t s =
      let i = get_or p.places.items k 0 in
      let places = take k p.places.items ++ i ∷ [] in
      let last = last-value ranges p at k d in
      let within : AreWithin ranges places = subst (AreWithin ranges) last.3 at.within in
      let long : length (take k p.places.items) + 1 ≡ p.depth = omega (arith, d, length-take-le k p.places.items (omega (arith, at.all_places, at.shallow))) in
      subst (λ js. IsTold l trees (picked ranges js) p.depth t) (sym last.3) (subst (λ n. IsTold l trees (picked ranges places) n t) long (seen k (omega (arith, d)) i t within s))
