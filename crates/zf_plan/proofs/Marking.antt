-- What was chosen stays a choice where the values of which it was made stay.
use Rattle.zf_plan.proofs.Prelude.{◌++◌, ◌+◌, ◌<◌, ◌∙◌, ◌∷◌, ◌≡◌, ◌≤◌, ◌⊎◌, [], ap, arith, Bool, eqb, false, get_or, inl, inr, length, List, None, Option, refl, set, Some, subst, suc, sym, take, true, zero, ℕ, cases_eq, cases_lt, false≢true, get_or-set_other, get_or-set_same, get_or-take, ◌≢◌, slice_get, IsRowOf-length, length-picked, picked-cons, AreDueWithin, AreWithin, AreWithin-tail, bound, both, Conjuncts, either, False, HasLeavesWithin, IsAt, IsRowOf, IsTreeTruth, Lands, LandsNext, leaf, Narrows, negated, opposite, picked, Place, Tree, tree_at, Truth, eqb-true, with_item, slice_get-picked, cut, FollowUsed, AreKept, AreNew, EachLeaf, is_still, IsKept, mark_at, StaysChoice, unmarked, UsesFirst, Mark, Marks, Seen}
use Rattle.zf_plan.proofs.Moving.{length-bound}
use Rattle.zf_plan.proofs.TreeTruths.{both-kept, either-kept}

-- ---- rows that agree

pub get-left : {V : Type 0} (xs ys : List V) (i : ℕ) → i < length xs → slice_get (xs ++ ys) i ≡ slice_get xs i
get-left [] ys i h = absurd (omega arith)
get-left (x ∷ xs) ys zero h = refl
get-left (x ∷ xs) ys (suc i) h = get-left xs ys i (omega arith)

pub get-right : {V : Type 0} (xs zs ys : List V) (i : ℕ) → length xs ≡ length zs → length xs ≤ i → slice_get (xs ++ ys) i ≡ slice_get (zs ++ ys) i
get-right [] [] ys i e h = refl
get-right [] (z ∷ zs) ys i e h = absurd (omega arith)
get-right (x ∷ xs) [] ys i e h = absurd (omega arith)
get-right (x ∷ xs) (z ∷ zs) ys zero e h = absurd (omega arith)
get-right (x ∷ xs) (z ∷ zs) ys (suc i) e h = get-right xs zs ys i (omega arith) (omega arith)

-- a row of the ranges is one with other first values too
row-front : {V : Type 0} (ranges : List (List V)) (places others : List ℕ) → AreWithin ranges places → AreWithin ranges others → length others ≡ length places → (tail : List V)
    → IsRowOf ranges (picked ranges others ++ tail) → IsRowOf ranges (picked ranges places ++ tail)
row-front [] [] [] w v e tail m = m
row-front [] (i ∷ places) others w v e tail m = absurd (let h = w.few in omega arith)
row-front [] [] (j ∷ others) w v e tail m = absurd (omega arith)
row-front (r ∷ ranges) [] [] w v e tail m = m
row-front (r ∷ ranges) [] (j ∷ others) w v e tail m = absurd (omega arith)
row-front (r ∷ ranges) (i ∷ places) [] w v e tail m = absurd (omega arith)
row-front (r ∷ ranges) (i ∷ places) (j ∷ others) w v e tail m =
    let a = picked-cons r ranges i places w in
    let n = a.1 in
    let b = picked-cons r ranges j others v in
    let rest = subst (λ row. IsRowOf (r ∷ ranges) (row ++ tail)) b.2 m in
    subst (λ row. IsRowOf (r ∷ ranges) (row ++ tail)) (sym a.2)
    ((i, n.within, n.is), row-front ranges places others (AreWithin-tail r ranges i places w) (AreWithin-tail r ranges j others v) (omega arith) tail rest.1)

-- where the places are the same of which P holds
module _ {V : Type 0} (ranges : List (List V)) (places others : List ℕ) (w : AreWithin ranges places) (v : AreWithin ranges others) (long : length others ≡ length places)
    (P : ℕ → Type 0) (agree : (i : ℕ) → P i → i < length places → get_or places i 0 ≡ get_or others i 0) where
  pub same-get : (more : List V) (i : ℕ) → (length places ≤ i) ⊎ P i → slice_get (picked ranges places ++ more) i ≡ slice_get (picked ranges others ++ more) i
  same-get more i h = elim (cases_lt i (length places)) [
    | inr far ↦ get-right (picked ranges places) (picked ranges others) more i
        (length-picked ranges places w ∙ sym long ∙ sym (length-picked ranges others v)) (omega (arith, far, length-picked ranges places w))
    | inl near ↦ elim h [
      | inl far ↦ absurd (omega arith)
      | inr p ↦ get-left (picked ranges places) more i (omega (arith, near, length-picked ranges places w))
          ∙ slice_get-picked ranges places i w near ∙ ap (slice_get (get_or ranges i [])) (agree i p near)
          ∙ sym (slice_get-picked ranges others i v (omega (arith, near, long))) ∙ sym (get-left (picked ranges others) more i (omega (arith, near, long, length-picked ranges others v)))
    ]
  ]

-- ---- trees follow what their leaves use

module _ {V : Type 0} (l : Conjuncts V) (uses : ℕ → ℕ → Bool) (follow : FollowUsed l uses) (row other : List V) (Q : ℕ → Type 0)
    (same : (i : ℕ) → Q i → slice_get row i ≡ slice_get other i) (due : AreDueWithin l (length row)) (long : length other ≡ length row)
    (P : ℕ → Type 0) (used : (c : ℕ) → P c → (i : ℕ) → uses c i ≡ true → Q i) where
  pub tree-follows : (tree : Tree) → HasLeavesWithin l.number tree → EachLeaf P tree → (t : Truth) → IsTreeTruth l tree row t → IsTreeTruth l tree other t
  tree-follows (leaf c) m u t h = follow c row other t m (due c m) (omega (arith, due c m, long)) (λ i is. same i (used c u i is)) h
  tree-follows (negated a) m u t h = tree-follows a m u (opposite t) h
  tree-follows (both a b) m u t h = both-kept (IsTreeTruth l a row) (IsTreeTruth l a other) (IsTreeTruth l b row) (IsTreeTruth l b other)
      (tree-follows a m.0 u.0) (tree-follows b m.1 u.1) t h
  tree-follows (either a b) m u t h = either-kept (IsTreeTruth l a row) (IsTreeTruth l a other) (IsTreeTruth l b row) (IsTreeTruth l b other)
      (tree-follows a m.0 u.0) (tree-follows b m.1 u.1) t h

pub each-leaf : (P Q : ℕ → Type 0) → ((c : ℕ) → P c → Q c) → (tree : Tree) → EachLeaf P tree → EachLeaf Q tree
each-leaf P Q f (leaf c) u = f c u
each-leaf P Q f (negated a) u = each-leaf P Q f a u
each-leaf P Q f (both a b) u = (each-leaf P Q f a u.0, each-leaf P Q f b u.1)
each-leaf P Q f (either a b) u = (each-leaf P Q f a u.0, each-leaf P Q f b u.1)

-- more first components
pub uses-more : (uses : ℕ → ℕ → Bool) (n m k : ℕ) → n ≤ m → (tree : Tree) → UsesFirst uses n k tree → UsesFirst uses m k tree
uses-more uses n m k h = each-leaf (λ c. (i : ℕ) → n ≤ i → i < k → uses c i ≡ false) (λ c. (i : ℕ) → m ≤ i → i < k → uses c i ≡ false) (λ c u i low high. u i (omega arith) high)

-- ---- choices

module _ {V : Type 0} (l : Conjuncts V) (trees : List Tree) (ranges : List (List V)) (k n : ℕ) (places : List ℕ) where
  -- all values
  pub stays-all : StaysChoice l trees ranges k n places None
  stays-all others w e first i v more at out is = absurd (out tt)

  -- what is False where these first values are the same
  pub stays-false : (uses : ℕ → ℕ → Bool) → FollowUsed l uses → AreDueWithin l (length ranges) → AreWithin ranges places → length places ≡ k → (tree : Tree)
      → HasLeavesWithin l.number tree → UsesFirst uses n k tree
      → (others : List ℕ) → AreWithin ranges others → length others ≡ k → take n others ≡ take n places → (x : V) (more : List V) → IsRowOf ranges (picked ranges others ++ x ∷ more)
      → (IsRowOf ranges (picked ranges places ++ x ∷ more) → IsTreeTruth l tree (picked ranges places ++ x ∷ more) False) → IsTreeTruth l tree (picked ranges others ++ x ∷ more) False
  stays-false uses follow due w long tree leaves u others v e first x more is h =
      let m = row-front ranges places others w v (e ∙ sym long) (x ∷ more) is in
      let a : length (picked ranges places ++ x ∷ more) ≡ length ranges = length-row (picked ranges places ++ x ∷ more) m in
      let b : length (picked ranges others ++ x ∷ more) ≡ length ranges = length-row (picked ranges others ++ x ∷ more) is in
      tree-follows l uses follow (picked ranges places ++ x ∷ more) (picked ranges others ++ x ∷ more) (λ i. (k ≤ i) ⊎ (i < n))
      (λ c h. same-get ranges places others w v (e ∙ sym long) (λ i. i < n)
      (λ i low near. sym (get_or-take n places i 0 low) ∙ ap (λ is. get_or is i 0) (sym first) ∙ get_or-take n others i 0 low)
      (x ∷ more) c (subst (λ d. (d ≤ c) ⊎ (c < n)) (sym long) h))
      (λ c m. omega (arith, due c m, a)) (b ∙ sym a) (λ c. (i : ℕ) → n ≤ i → i < k → uses c i ≡ false)
      (λ c u i is. elim (cases_lt i n) [
        | inl low ↦ inr low
        | inr high ↦ elim (cases_lt i k) [ inl between ↦ absurd (false≢true (sym (u i high between) ∙ is)) | inr far ↦ inl far ]
      ])
      tree leaves u False (h m) where
        length-row : (row : List V) → IsRowOf ranges row → length row ≡ length ranges
        length-row row m = IsRowOf-length ranges row m

  -- what a conjunct leaves that uses these first values alone
  pub stays-narrowed : (uses : ℕ → ℕ → Bool) → FollowUsed l uses → AreDueWithin l (length ranges) → AreWithin ranges places → length places ≡ k → (j : ℕ)
      → j < length trees → HasLeavesWithin l.number (tree_at trees j)
      → UsesFirst uses n k (tree_at trees j) → (left : List ℕ) → Narrows l (tree_at trees j) ranges (picked ranges places) (get_or ranges k []) left → StaysChoice l trees ranges k n places (Some left)
  stays-narrowed uses follow due w long j near leaves u left h others v e first i x more at out is =
      (j, near, stays-false uses follow due w long (tree_at trees j) leaves u others v e first x more is (λ m. h i x more at out m))

-- ---- marks

module _ {V : Type 0} (l : Conjuncts V) (trees : List Tree) (ranges : List (List V)) where
  -- all values, which are always a choice
  pub kept-all : (stamps places : List ℕ) (k : ℕ) (choice other : Option (List ℕ)) (mark : Mark) → (is_still stamps mark ≡ true → other ≡ None)
      → IsKept l trees ranges stamps places k choice mark → IsKept l trees ranges stamps places k other mark
  kept-all stamps places k choice other mark all h = record {
    few = h.few;
    past = h.past;
    small = h.small;
    still = λ is within. subst (StaysChoice l trees ranges k mark.due places) (sym (all is)) (stays-all l trees ranges k mark.due places);
  }

  -- a move that leaves the first k values
  module _ (k : ℕ) (p q : Place) (deep : k ≤ p.depth) (at : IsAt ranges p) (bt : IsAt ranges q) (short : q.depth ≤ k + 1)
      (fronts : (i : ℕ) → i ≤ k → take i (bound q) ≡ take i (bound p)) (d : ℕ) (choice : Option (List ℕ)) where
    moved : (stamps new : List ℕ) (mark : Mark) → IsKept l trees ranges stamps (bound p) d choice mark
        → (is_still new mark ≡ true → (mark.due ≤ q.depth → mark.due ≤ k) × (is_still stamps mark ≡ true)) → mark.stamp ≤ get_or new mark.due 0 → IsKept l trees ranges new (bound q) d choice mark
    moved stamps new mark h before past = record {
      few = h.few;
      past = past;
      small = h.small;
      still = λ is within others w long first.
          let b = before is in
          let low : mark.due ≤ k = b.0 (omega (arith, within, length-bound ranges q bt)) in
          h.still b.1 (omega (arith, low, deep, length-bound ranges p at)) others w long (first ∙ fronts mark.due low);
    }

    pub moved-on : (end i : ℕ) → Lands end k i p q → IsKept l trees ranges p.marks.stamps.items (bound p) d choice (mark_at p.marks d)
        → IsKept l trees ranges q.marks.stamps.items (bound q) d choice (mark_at q.marks d)
    moved-on end i (found, seen, inl (low, ps, depth, fr, renews)) h =
        let mark = mark_at p.marks d in
        let stamps = p.marks.stamps.items in
        let next = cut (get_or stamps (k + 1) 0 + 1) in
        let there : k + 1 < length stamps = let a = at.all_stamps in let b = bt.shallow in omega arith in
        let same : mark_at p.marks d ≡ mark_at q.marks d = ap (λ ms. get_or ms d unmarked) (sym renews.choices) in
        let new : IsKept l trees ranges (set stamps (k + 1) next) (bound q) d choice mark = elim (cases_eq mark.due (k + 1)) [
          | inl e ↦
              let now : get_or (set stamps (k + 1) next) mark.due 0 ≡ next = ap (λ j. get_or (set stamps (k + 1) next) j 0) e ∙ get_or-set_same stamps (k + 1) next 0 there in
              let less : mark.stamp < next = let a = h.past in let b = h.small in let c = ap (λ j. get_or stamps j 0) e in omega arith in
              moved stamps (set stamps (k + 1) next) mark h
              (λ is. absurd (let f = eqb-true mark.stamp (get_or (set stamps (k + 1) next) mark.due 0) is in omega arith)) (omega (arith, now, less))
          | inr ne ↦
              let now : get_or (set stamps (k + 1) next) mark.due 0 ≡ get_or stamps mark.due 0 = get_or-set_other stamps (k + 1) mark.due next 0 ne in
              moved stamps (set stamps (k + 1) next) mark h
              (λ is. ((λ within. omega arith), sym (ap (eqb mark.stamp) now) ∙ is)) (let a = h.past in omega (arith, now, a))
        ] in
        subst (λ m. IsKept l trees ranges q.marks.stamps.items (bound q) d choice m) same
        (subst (λ ss. IsKept l trees ranges ss (bound q) d choice mark) (sym renews.stamps) new)
    moved-on end i (found, seen, inr (high, ps, depth, fr, marks)) h =
        subst (λ (ms : Marks). IsKept l trees ranges ms.stamps.items (bound q) d choice (mark_at ms d)) (sym marks)
        (moved p.marks.stamps.items p.marks.stamps.items (mark_at p.marks d) h (λ is. ((λ within. omega arith), is)) h.past)

  -- at first nothing is kept
  pub kept-first : (marks : Marks) (places : List ℕ) (choices : List (Option (List ℕ))) → AreNew (length ranges) marks → AreKept l trees ranges marks places choices
  kept-first marks places choices new k near =
      subst (IsKept l trees ranges marks.stamps.items places k (get_or choices k None)) (sym (new.none k)) (record {
        few = omega arith;
        past = omega arith;
        small = omega arith;
        still = λ is. absurd (let e = eqb-true 0 (get_or marks.stamps.items 0 0) is in let f = new.some 0 (omega arith) in omega arith);
      })

  -- a choice that is made anew
  pub kept-chosen : (old new : Marks) (places : List ℕ) (choices : List (Option (List ℕ))) (k : ℕ) (choice : Option (List ℕ)) → k < length choices → new.stamps.items ≡ old.stamps.items
      → ((d : ℕ) → d ≢ k → mark_at new d ≡ mark_at old d) → AreKept l trees ranges old places choices → IsKept l trees ranges new.stamps.items places k choice (mark_at new k)
      → AreKept l trees ranges new places (set choices k choice)
  kept-chosen old new places choices k choice inside stamps others kept here d near = elim (cases_eq d k) [
    | inl e ↦
        subst (λ i. IsKept l trees ranges new.stamps.items places i (get_or (set choices k choice) i None) (mark_at new i)) (sym e)
        (subst (λ w. IsKept l trees ranges new.stamps.items places k w (mark_at new k)) (sym (get_or-set_same choices k choice None inside)) here)
    | inr ne ↦
        subst (λ ss. IsKept l trees ranges ss places d (get_or (set choices k choice) d None) (mark_at new d)) (sym stamps)
        (subst (λ w. IsKept l trees ranges old.stamps.items places d w (mark_at new d)) (sym (get_or-set_other choices k d choice None ne))
        (subst (IsKept l trees ranges old.stamps.items places d (get_or choices d None)) (sym (others d ne)) (kept d near)))
  ]

-- a landing from a place of which only a mark, what was found and what was seen are others
pub landed-marked : {V : Type 0} (ranges : List (List V)) (choices : List (Option (List ℕ))) (choice : Option (List ℕ)) (p now q : Place) (truth : Truth)
    (seen : Seen) → now ≡ record p { marks = now.marks }
    → LandsNext (length (get_or ranges now.depth [])) (get_or (set choices p.depth choice) now.depth None) now.depth 0
    (record now { found = with_item now.found p.depth truth; seen = with_item now.seen p.depth seen }) q
    → LandsNext (length (get_or ranges p.depth [])) (get_or (set choices p.depth choice) p.depth None) p.depth 0
    (record p { marks = now.marks; found = with_item p.found p.depth truth; seen = with_item p.seen p.depth seen }) q
landed-marked ranges choices choice p now q truth seen is h =
    subst (λ (w : Place). LandsNext (length (get_or ranges w.depth [])) (get_or (set choices p.depth choice) w.depth None) w.depth 0
    (record w { found = with_item w.found p.depth truth; seen = with_item w.seen p.depth seen }) q) is h
