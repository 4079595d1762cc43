-- How many tests there were, where each conjunct is a leaf and nothing is left out.
use Rattle.zf_plan.proofs.Prelude.{suc, zero, due_of, IsSoFar, IsTreeTruth, ◌++◌, ◌+◌, ◌<◌, ◌∙◌, ◌∷◌, ◌≡◌, ◌≤◌, ◌⊎◌, [], ap, arith, Bool, false, get_or, inl, inr, length, length-append, List, None, Option, refl, set, Some, subst, sym, take, true, ℕ, cases_eq, cases_lt, false≢true, append-nil, IsTotalOrder, ◌≢◌, AllPairs, Contains, Ordering, Less, IsNth, nth, IsFrontOf-picked, IsRowOf-length, length-picked, nth-at, picked-push, Conjuncts, HaveOneTruth, KeepTruths, AreWithin, picked, first_of, is_reached, reaches, under, IsRowOf, Truth, False, Out, True, TiesAreEqual, length-take-le, take_more_set, bound, IsAt, Lands, LandsNext, Place, IsNextChoice, path, Equal, Greater, get_or_default, Tree, tree_at, leaf, AreAscending, cond, eqb, Step, Holds, Breaks, End, Gives, ahead_of, IsSound, get_or-set_other, get_or-set_same, picked-nil, cases_Bool, cases_order, eqb-true, cut, HasLength, IsAhead, IsBound, IsCount, IsDueTest, IsNumberOfTests, IsUpTo, IsWalked, past, unseen, under-at, under-push, under-differs, reaches-under, IsFrontOf-length, IsReached-from, is_reached-from, unreached, IsUpTo-from, IsUpTo-to, IsAhead-to, Counts, Plan}
use Rattle.std.proofs.lemmas.Cmp.{alike_right}
use Rattle.zf_walk.proofs.Counting.{cut-le, number-same, number-more, number-none, number-le}
use Rattle.zf_plan.specs.{all_of, AreDue, AreNotFalse, below_it, CountsFound, IsCounted, IsFlat, IsTested, NeedsBelow, none_of, seen_at, Tests}
use Rattle.zf_plan.proofs.SoFar.{so-kept}
use Rattle.zf_plan.proofs.Testing.{not-false}
use Rattle.zf_plan.proofs.Moving.{same-under, IsFrontier, frontier-past, frontier-at, frontier-last, within-front, length-front, length-bound, last-value}

-- what the order, the leaves and the named row are known to be
pub record Basis {V : Type 0} (cmp : V → V → Ordering) (l : Conjuncts V) (ranges : List (List V)) (after : Option (List V)) : Type 0 where
  pub total : IsTotalOrder cmp
  pub ties : TiesAreEqual cmp
  pub one_truth : HaveOneTruth l
  pub kept : KeepTruths l
  pub named : HasLength after (length ranges)

-- the value after a road is of the range there
in-range : {V : Type 0} (road : List V) (v : V) (tail : List V) (ranges : List (List V)) → IsRowOf (take (length (road ++ v ∷ tail)) ranges) (road ++ v ∷ tail)
    → Contains (get_or ranges (length road) []) v
in-range [] v tail [] m = absurd m
in-range [] v tail (r ∷ ranges) m = m.0
in-range (x ∷ road) v tail [] m = absurd m
in-range (x ∷ road) v tail (r ∷ ranges) m = in-range road v tail ranges m.1

-- what is no row that begins with a road is none that goes on from it
less-under : {V : Type 0} (cmp : V → V → Ordering) (road : List V) (F : List V → Bool) (row : List V) → under cmp road all_of row ≡ false → under cmp road F row ≡ false
less-under cmp [] F row h = absurd (false≢true (sym h))
less-under cmp (x ∷ road) F [] h = refl
less-under cmp (x ∷ road) F (v ∷ row) h = go (cmp x v) h (less-under cmp road F row) where
  go : (q : Ordering) → first_of q (under cmp road all_of row) ≡ false → (under cmp road all_of row ≡ false → under cmp road F row ≡ false) → first_of q (under cmp road F row) ≡ false
  go Less h ih = absurd (false≢true (sym h))
  go Equal h ih = ih h
  go Greater h ih = refl

cut-cut : (a n : ℕ) → cut (cut a + n) ≡ cut (a + n)
cut-cut a n = omega arith

module _ {V : Type 0} {cmp : V → V → Ordering} {l : Conjuncts V} {ranges : List (List V)} {after : Option (List V)} (given : Basis cmp l ranges after) where
  abbrev pub Walked : List V × ℕ → Type 0
  Walked x = IsWalked cmp l ranges after x

  -- the tested pairs on rows that are not ahead
  abbrev pub Passed : List V → (List V → Bool) → List V × ℕ → Type 0
  Passed road F x = Walked x × (under cmp road F x.0 ≡ false)

  pub count-same : (road : List V) (F G : List V → Bool) (number : ℕ) → ((tail : List V) (c : ℕ) → Walked (road ++ tail, c) → F tail ≡ G tail)
      → IsCount (Passed road F) number → IsCount (Passed road G) number
  count-same road F G number h k = number-same (Passed road F) (Passed road G) number (λ x w. (w.0, sym (equal x w.0) ∙ w.1)) (λ x w. (w.0, equal x w.0 ∙ w.1)) k where
    equal : (x : List V × ℕ) → Walked x → under cmp road F x.0 ≡ under cmp road G x.0
    equal x w = same-under cmp given.total given.ties road F G x.0 (λ tail is. h tail x.1 (subst (λ r. Walked (r, x.1)) (sym is) w))

  -- a row is under itself as nothing is after it
  itself : (road : List V) (F : List V → Bool) → under cmp road F road ≡ F []
  itself road F = subst (λ r. under cmp road F r ≡ F []) (append-nil road) (under-at cmp given.total road F [])

  -- ---- a row

  module _ (places : List ℕ) (w : AreWithin ranges places) where
    abbrev road : List V
    road = picked ranges places

    long : length road ≡ length places
    long = length-picked ranges places w

    -- a leaf that is True or Out is not False
    never-false : (c : ℕ) → c < l.number → l.due c ≤ length places → l.says c road True ⊎ l.says c road Out → l.says c road False → ⊥
    never-false c m d (inl a) f = let e : True ≡ False = given.one_truth c road True False m (omega (arith, d, long)) a f in cc
    never-false c m d (inr b) f = let e : Out ≡ False = given.one_truth c road Out False m (omega (arith, d, long)) b f in cc

    -- it is not reached
    pub counts-unreached : (tests : ℕ) → is_reached cmp after (length ranges) road ≡ false → Counts cmp l ranges after road all_of tests → Counts cmp l ranges after road none_of tests
    counts-unreached tests r (number, k, e) = (number, count-same road all_of none_of number (λ tail c v. absurd (stop tail c v)) k, e) where
      stop : (tail : List V) (c : ℕ) → Walked (road ++ tail, c) → ⊥
      stop tail c v =
          let pair = v.is_pair in
          let candidate = pair.candidate in
          let short = IsFrontOf-length ranges (road ++ tail) candidate.front in
          false≢true (sym (unreached cmp given.total after (length ranges) road tail given.named short r)
          ∙ is_reached-from cmp given.total after (length ranges) (road ++ tail) given.named short v.reached)

    -- it is a whole row
    pub counts-whole : (tests : ℕ) → length ranges ≤ length places → Counts cmp l ranges after road below_it tests → Counts cmp l ranges after road none_of tests
    counts-whole tests whole (number, k, e) = (number, count-same road below_it none_of number stop k, e) where
      stop : (tail : List V) (c : ℕ) → Walked (road ++ tail, c) → below_it tail ≡ none_of tail
      stop [] c v = refl
      stop (x ∷ tail) c v =
          let pair = v.is_pair in
          let candidate = pair.candidate in
          let short = IsFrontOf-length ranges (road ++ x ∷ tail) candidate.front in
          absurd (omega (arith, short, whole, long, length-append road (x ∷ tail)))

    -- it is reached, no leaf that needs fewer values is False on it, and these are those that need so many
    module _ (reached : is_reached cmp after (length ranges) road ≡ true)
        (kept : (c : ℕ) → c < l.number → l.due c < length places → l.says c road True ⊎ l.says c road Out)
        (leaves : List ℕ) (ascending : AllPairs (λ i j. i < j) leaves)
        (here : (i : ℕ) → i < length leaves → (get_or leaves i 0 < l.number) × (l.due (get_or leaves i 0) ≡ length places))
        (all : (c : ℕ) → c < l.number → l.due c ≡ length places → (i : ℕ) × (i < length leaves) × (get_or leaves i 0 ≡ c)) where
      -- the pairs of the row and one of the first i leaves
      abbrev OnRow : ℕ → List V × ℕ → Type 0
      OnRow i x = Passed road all_of x ⊎ (road ≡ x.0) × ((k : ℕ) × (k < i) × (get_or leaves k 0 ≡ x.1))

      -- a leaf is tested where those before it are not False
      walked-here : (i : ℕ) → i < length leaves → AreNotFalse l road leaves i → Walked (road, get_or leaves i 0)
      walked-here i near before = record {
        is_pair = record {
          candidate = record {
            front = IsFrontOf-picked ranges places w;
            kept = λ d n h. never-false d n (omega (arith, h, long)) (kept d n (omega (arith, h, long)));
          };
          conjunct = (here i near).0;
          due = (here i near).1 ∙ sym long;
        };
        first = λ d less h.
            let n : d < l.number = let f = here i near in omega (arith, less, f.0) in
            let at = all d n (h ∙ long) in
            let order : at.0 < i = elim (cases_order at.0 i) [
              | inl same ↦ absurd (let z : get_or leaves at.0 0 ≡ get_or leaves i 0 = ap (λ j. get_or leaves j 0) same in omega (arith, z, at.2, less))
              | inr other ↦ elim other [
                | inl low ↦ low
                | inr high ↦ absurd (let z = ascending i at.0 0 high at.1 in omega (arith, z, at.2, less))
              ]
            ] in
            never-false d n (omega (arith, h, long)) (subst (λ c. l.says c road True ⊎ l.says c road Out) at.2 (before at.0 order));
        reached = IsReached-from cmp given.total after (length ranges) road given.named (let f = w.few in omega (arith, f, long)) reached;
      }

      -- so many tests more
      count-row : (i : ℕ) → i ≤ length leaves → ((k : ℕ) → k < i → AreNotFalse l road leaves k) → (number : ℕ) → IsCount (Passed road all_of) number → IsCount (OnRow i) (number + i)
      count-row zero low before number count = number-same (Passed road all_of) (OnRow 0) (number + 0) (λ x p. inl p) (λ x p. elim p [ inl q ↦ q | inr v ↦ absurd (let n = v.1 in omega (arith, n.1)) ])
          (subst (IsCount (Passed road all_of)) (omega arith) count)
      count-row (suc i) low before number count = subst (IsCount (OnRow (suc i))) (omega arith)
          (number-more (OnRow i) (OnRow (suc i)) (number + i) (road, get_or leaves i 0) apart (inr (refl, (i, omega arith, refl))) more back
          (count-row i (omega arith) (λ k m. before k (omega arith)) number count)) where
            apart : OnRow i (road, get_or leaves i 0) → ⊥
            apart (inl p) = false≢true (sym p.1 ∙ itself road all_of)
            apart (inr (e, (k, m, same))) = let z = ascending k i 0 m (omega arith) in omega (arith, z, same)

            more : (x : List V × ℕ) → OnRow i x → OnRow (suc i) x
            more x (inl p) = inl p
            more x (inr (e, (k, m, same))) = inr (e, (k, omega (arith, m), same))

            back : (x : List V × ℕ) → OnRow (suc i) x → OnRow i x ⊎ ((road, get_or leaves i 0) ≡ x)
            back x (inl p) = inl (inl p)
            back x (inr (e, (k, m, same))) = elim (cases_eq k i) [
              | inl is ↦ inr (ap (λ r. (r, get_or leaves i 0)) e ∙ ap (λ c. (x.0, c)) (ap (λ j. get_or leaves j 0) (sym is) ∙ same))
              | inr other ↦ inl (inr (e, (k, omega (arith, m), same)))
            ]

      -- a tested pair of the row is one of these
      on-row : (x : List V × ℕ) → Walked x → road ≡ x.0 → (i : ℕ) × (i < length leaves) × (get_or leaves i 0 ≡ x.1)
      on-row x v e = let pair = v.is_pair in all x.1 pair.conjunct (pair.due ∙ ap length (sym e) ∙ long)

      -- what is tested, and isn't ahead any more
      leaves-row : (F : List V → Bool) (i : ℕ) → F [] ≡ false → i ≤ length leaves → ((k : ℕ) → k < i → AreNotFalse l road leaves k)
          → ((x : List V × ℕ) (tail : List V) → Walked x → road ++ tail ≡ x.0 → F tail ≡ false → (road ≡ x.0) × ((k : ℕ) × (k < i) × (get_or leaves k 0 ≡ x.1)))
          → (tests : ℕ) → Counts cmp l ranges after road all_of tests → Counts cmp l ranges after road F (cut (tests + i))
      leaves-row F i none low before behind tests (number, count, e) = (
        number + i,
        number-same (OnRow i) (Passed road F) (number + i) to from (count-row i low before number count),
        ap (λ n. cut (n + i)) e ∙ cut-cut number i,
      ) where
        to : (x : List V × ℕ) → OnRow i x → Passed road F x
        to x (inl p) = (p.0, less-under cmp road F x.0 p.1)
        to x (inr (e, (k, m, same))) = (
          subst Walked (ap (λ r. (r, get_or leaves k 0)) e ∙ ap (λ c. (x.0, c)) same) (walked-here k (omega (arith, m, low)) (before k m)),
          subst (λ r. under cmp road F r ≡ false) e (itself road F ∙ none),
        )

        from : (x : List V × ℕ) → Passed road F x → OnRow i x
        from x p = elim (cases_Bool (under cmp road all_of x.0)) [
          | inl y ↦ let d = under-differs cmp given.total given.ties road all_of F x.0 y p.1 in inr (behind x d.0 p.0 d.1 d.3)
          | inr n ↦ inl (p.0, n)
        ]

      -- one of them is False, and those before it are not
      pub counts-false : (i : ℕ) → i < length leaves → AreNotFalse l road leaves i → l.says (get_or leaves i 0) road False
          → (tests : ℕ) → Counts cmp l ranges after road all_of tests → Counts cmp l ranges after road none_of (cut (tests + (i + 1)))
      counts-false i near before no' = leaves-row none_of (i + 1) refl (omega (arith, near)) (λ k m j n. before j (omega (arith, m, n))) behind where
        still : (tail : List V) → l.says (get_or leaves i 0) (road ++ tail) False
        still tail = let f = here i near in given.kept (get_or leaves i 0) road tail False f.0 (omega (arith, f.1, long)) no'

        behind : (x : List V × ℕ) (tail : List V) → Walked x → road ++ tail ≡ x.0 → none_of tail ≡ false → (road ≡ x.0) × ((k : ℕ) × (k < i + 1) × (get_or leaves k 0 ≡ x.1))
        behind x [] v e z =
            let same : road ≡ x.0 = sym (append-nil road) ∙ e in
            let at = on-row x v same in
            elim (cases_lt i at.0) [
              | inl high ↦ absurd (
                  let pair = v.is_pair in
                  let less : get_or leaves i 0 < x.1 = let z = ascending i at.0 0 high at.1 in omega (arith, z, at.2) in
                  v.first (get_or leaves i 0) less ((here i near).1 ∙ sym long ∙ ap length same) (subst (λ r. l.says (get_or leaves i 0) r False) e (still [])))
              | inr low ↦ (same, (at.0, omega (arith, low), at.2))
            ]
        behind x (y ∷ tail) v e z =
            let pair = v.is_pair in
            let candidate = pair.candidate in
            let f = here i near in
            absurd (candidate.kept (get_or leaves i 0) f.0 (omega (arith, f.1, long, ap length e, length-append road (y ∷ tail)))
            (subst (λ r. l.says (get_or leaves i 0) r False) e (still (y ∷ tail))))

      -- none of them is
      pub counts-all : AreNotFalse l road leaves (length leaves) → (tests : ℕ) → Counts cmp l ranges after road all_of tests → Counts cmp l ranges after road below_it (cut (tests + length leaves))
      counts-all before = leaves-row below_it (length leaves) refl (omega arith) (λ k m j n. before j (omega (arith, m, n))) behind where
        behind : (x : List V × ℕ) (tail : List V) → Walked x → road ++ tail ≡ x.0 → below_it tail ≡ false → (road ≡ x.0) × ((k : ℕ) × (k < length leaves) × (get_or leaves k 0 ≡ x.1))
        behind x [] v e z = let same : road ≡ x.0 = sym (append-nil road) ∙ e in (same, on-row x v same)
        behind x (y ∷ tail) v e z = absurd (false≢true (sym z))

      -- after a test of the row
      pub counts-tested : (before t : Truth) (old new : ℕ) → IsTested l road leaves before t old new → Counts cmp l ranges after road all_of old → CountsFound cmp l ranges after road t new
      unfolding Tests
      counts-tested before t old new (n, h, is) count = go t n h is where
        go : (t : Truth) (n : ℕ) → Tests l road leaves before t n → new ≡ cut (old + n) → CountsFound cmp l ranges after road t new
        go False n h is = subst (Counts cmp l ranges after road none_of) (sym (is ∙ ap (λ k. cut (old + k)) h.1)) (counts-false h.0 h.2 h.3 h.4 old count)
        go True n h is = subst (Counts cmp l ranges after road below_it) (sym (is ∙ ap (λ k. cut (old + k)) h.0))
            (counts-all (subst (AreNotFalse l road leaves) h.0 (not-false l road leaves before n True h.1)) old count)
        go Out n h is = subst (Counts cmp l ranges after road below_it) (sym (is ∙ ap (λ k. cut (old + k)) h.0))
            (counts-all (subst (AreNotFalse l road leaves) h.0 (not-false l road leaves before n Out h.1)) old count)

  -- ---- moves

  -- to a value of the range after a road, or past the road
  module _ (p q : Place) (at : IsAt ranges p) (k : ℕ) (deep : k ≤ p.depth) (near : k < length ranges) (rising : AllPairs (λ v w. cmp v w ≡ Less) (get_or ranges k [])) where
    abbrev front : List V
    front = picked ranges (take k p.places.items)

    front-long : length front ≡ k
    front-long = length-front ranges p at k deep

    inside : (v : V) (tail : List V) (c : ℕ) → Walked (front ++ v ∷ tail, c) → Contains (get_or ranges k []) v
    inside v tail c w =
        let pair = w.is_pair in
        let candidate = pair.candidate in
        subst (λ i. Contains (get_or ranges i []) v) front-long (in-range front v tail ranges candidate.front)

    -- two tests that hold of the values from one place on
    meet : (f : ℕ) (F G : List V → Bool) → IsFrontier (get_or ranges k []) f F → IsFrontier (get_or ranges k []) f G → (v : V) (tail : List V)
        → Contains (get_or ranges k []) v → F (v ∷ tail) ≡ G (v ∷ tail)
    meet f F G a b v tail m = let n = nth (get_or ranges k []) v m in elim (cases_lt n.0 f) [
      | inl low ↦ a.behind n.0 v tail n.1 low ∙ sym (b.behind n.0 v tail n.1 low)
      | inr high ↦ a.ahead n.0 v tail n.1 high ∙ sym (b.ahead n.0 v tail n.1 high)
    ]

    module _ (f : ℕ) (F : List V → Bool) (edge : IsFrontier (get_or ranges k []) f F) (none : F [] ≡ false) where
      on-value : (y : V) → IsNth (get_or ranges k []) f y → (number : ℕ) → IsCount (Passed front F) number → IsCount (Passed (front ++ y ∷ []) all_of) number
      on-value y n number count =
          number-same (Passed front (under cmp (y ∷ []) all_of)) (Passed (front ++ y ∷ []) all_of) number
          (λ x w. (w.0, under-push cmp given.total front all_of y x.0 ∙ w.1)) (λ x w. (w.0, sym (under-push cmp given.total front all_of y x.0) ∙ w.1))
          (count-same front F (under cmp (y ∷ []) all_of) number tails count) where
            tails : (tail : List V) (c : ℕ) → Walked (front ++ tail, c) → F tail ≡ under cmp (y ∷ []) all_of tail
            tails [] c w = none
            tails (v ∷ tail) c w =
                meet f F (reaches cmp true (y ∷ [])) edge (frontier-at cmp given.total given.ties (get_or ranges k []) rising f y n) v tail (inside v tail c w)

      past-row : length (get_or ranges k []) ≤ f → (number : ℕ) → IsCount (Passed front F) number → IsCount (Passed front none_of) number
      past-row over number count = count-same front F none_of number tails count where
        tails : (tail : List V) (c : ℕ) → Walked (front ++ tail, c) → F tail ≡ false
        tails [] c w = none
        tails (v ∷ tail) c w = meet f F none_of edge (frontier-last cmp given.total given.ties (get_or ranges k []) f over) v tail (inside v tail c w)

      few : length (take k p.places.items) ≡ k
      few = length-take-le k p.places.items (omega (arith, at.all_places))

      counts-landed : (tests : ℕ) → Counts cmp l ranges after front F tests → Lands (length (get_or ranges k [])) k f p q → Counts cmp l ranges after (picked ranges (bound q)) (λ tail. q.fresh) tests
      counts-landed tests (number, count, is) (found, seen, inl (low, ps, d, fr, marks)) =
          let n = nth-at (get_or ranges k []) f low in
          let there : bound q ≡ take k p.places.items ++ f ∷ [] =
          ap (λ j. take j q.places.items) d ∙ ap (take (k + 1)) ps ∙ take_more_set p.places.items k f (omega (arith, at.all_places)) in
          let line : picked ranges (bound q) ≡ front ++ n.0 ∷ [] = ap (picked ranges) there
          ∙ picked-push ranges (take k p.places.items) f n.0 (within-front ranges p at k deep) (omega (arith, few)) (subst (λ j. IsNth (get_or ranges j []) f n.0) (sym few) n.1) in (
            number,
            subst (λ b. IsCount (Passed (picked ranges (bound q)) (λ tail. b)) number) (sym fr) (subst (λ r. IsCount (Passed r all_of) number) (sym line) (on-value n.0 n.1 number count)),
            is,
          )
      counts-landed tests (number, count, is) (found, seen, inr (high, ps, d, fr, marks)) =
          let there : bound q ≡ take k p.places.items = ap (λ j. take j q.places.items) d ∙ ap (take k) ps in (
            number,
            subst (λ b. IsCount (Passed (picked ranges (bound q)) (λ tail. b)) number) (sym fr)
                (subst (λ ps. IsCount (Passed (picked ranges ps) none_of) number) (sym there) (past-row high number count)),
            is,
          )

  -- where all values are tried, the next is the first one
  next-is : (from next : ℕ) → IsNextChoice None from next → next ≡ from
  next-is from next n = elim (cases_lt from next) [ inl low ↦ absurd (n.skipped from (omega arith) low tt) | inr high ↦ let u = n.up in omega arith ]

  below-first : (range : List V) → IsFrontier range 0 below_it
  below-first range = record { ahead = λ m v tail n h. refl; behind = λ m v tail n h. absurd (omega arith) }

  pub counts-descends : (p q : Place) (tests : ℕ) → IsAt ranges p → p.depth < length ranges → AllPairs (λ v w. cmp v w ≡ Less) (get_or ranges p.depth [])
      → Counts cmp l ranges after (path ranges p) below_it tests → LandsNext (length (get_or ranges p.depth [])) None p.depth 0 p q
      → Counts cmp l ranges after (picked ranges (bound q)) (λ tail. q.fresh) tests
  counts-descends p q tests at near rising count (next, n, lands) =
      counts-landed p q at p.depth (omega arith) near rising 0 below_it (below-first (get_or ranges p.depth [])) refl tests count
      (subst (λ f. Lands (length (get_or ranges p.depth [])) p.depth f p q) (next-is 0 next n) lands)

  pub counts-retreats : (p q : Place) (tests k : ℕ) → IsAt ranges p → p.depth ≡ k + 1 → AllPairs (λ v w. cmp v w ≡ Less) (get_or ranges k [])
      → Counts cmp l ranges after (path ranges p) none_of tests → LandsNext (length (get_or ranges k [])) None k (get_or p.places.items k 0 + 1) p q
      → Counts cmp l ranges after (picked ranges (bound q)) (λ tail. q.fresh) tests
  counts-retreats p q tests k at d rising (number, count, is) (next, n, lands) =
      let was = last-value ranges p at k d in
      let x = was.0 in
      let i = get_or p.places.items k 0 in
      let road = picked ranges (take k p.places.items) in
      let there : IsCount (Passed (road ++ x ∷ []) none_of) number = subst (λ r. IsCount (Passed r none_of) number) was.2 count in
      counts-landed p q at k (omega arith) (omega (arith, at.shallow)) rising (i + 1) (under cmp (x ∷ []) none_of)
      (frontier-past cmp given.total given.ties (get_or ranges k []) rising i x was.1) refl tests (
        number,
        number-same (Passed (road ++ x ∷ []) none_of) (Passed road (under cmp (x ∷ []) none_of)) number
            (λ y w. (w.0, sym (under-push cmp given.total road none_of x y.0) ∙ w.1)) (λ y w. (w.0, under-push cmp given.total road none_of x y.0 ∙ w.1)) there,
        is,
      )
      (subst (λ f. Lands (length (get_or ranges k [])) k f p q) (next-is (i + 1) next n) lands)

  -- ---- the number of tests

  -- what comes after a row that is ahead is ahead
  further : (here : Bool) (road whole row : List V) → reaches cmp here road whole ≡ true → reaches cmp false whole row ≡ true → under cmp road (λ tail. here) row ≡ true
  further false [] whole row a b = absurd (false≢true a)
  further true [] whole row a b = refl
  further here (y ∷ road) [] row a b = absurd (false≢true a)
  further here (y ∷ road) (v ∷ whole) [] a b = absurd (false≢true b)
  further here (y ∷ road) (v ∷ whole) (w ∷ row) a b = go (cmp y v) (cmp v w) refl refl a b (further here road whole row) where
    go : (p q : Ordering) → cmp y v ≡ p → cmp v w ≡ q → first_of p (reaches cmp here road whole) ≡ true → first_of q (reaches cmp false whole row) ≡ true
        → (reaches cmp here road whole ≡ true → reaches cmp false whole row ≡ true → under cmp road (λ tail. here) row ≡ true) → first_of (cmp y w) (under cmp road (λ tail. here) row) ≡ true
    go Less Less e f k l ih = let g : cmp y w ≡ Less = (given.total).trans y v w e f in rw g refl
    go Less Equal e f k l ih = let g : cmp y w ≡ Less = sym (alike_right given.total v w y f) ∙ e in rw g refl
    go Equal Less e f k l ih = let g : cmp y w ≡ Less = (given.total).congr y v w e ∙ f in rw g refl
    go Equal Equal e f k l ih = let g : cmp y w ≡ Equal = (given.total).congr y v w e ∙ f in rw g (ih k l)
    go Greater q e f k l ih = absurd (false≢true k)
    go Less Greater e f k l ih = absurd (false≢true l)
    go Equal Greater e f k l ih = absurd (false≢true l)

  short : (x : List V × ℕ) → Walked x → length x.0 ≤ length ranges
  short x w = let pair = w.is_pair in let c = pair.candidate in IsFrontOf-length ranges x.0 c.front

  module _ (places : List ℕ) (within : AreWithin ranges places) (tests : ℕ) where
    -- all tests after a whole row are those up to it
    pub tests-up_to : length places ≡ length ranges → Counts cmp l ranges after (picked ranges places) none_of tests → (number : ℕ)
        × IsNumberOfTests cmp l ranges after (Some (picked ranges places)) number × (tests ≡ cut number)
    tests-up_to whole (number, count, is) =
        let row = picked ranges places in
        let long : length row ≡ length ranges = length-picked ranges places within ∙ whole in (
          number,
          number-same (Passed row none_of) (λ x. IsWalked cmp l ranges after x × IsUpTo cmp (Some row) x.0) number
              (λ x w. (w.0, IsUpTo-from cmp given.total row x.0 (let s = short x w.0 in omega (arith, s, long)) (reaches-under cmp given.total false row x.0 ∙ w.1)))
              (λ x w. (w.0, sym (reaches-under cmp given.total false row x.0) ∙ IsUpTo-to cmp given.total row x.0 (let s = short x w.0 in omega (arith, s, long)) w.1))
              count,
          is,
        )

    module _ (fresh : Bool) (counted : Counts cmp l ranges after (picked ranges places) (λ tail. fresh) tests) where
      -- there are no more tests than up to a row that is ahead, up to the end, and in all
      pub tests-before_row : (row : List V) (number : ℕ) → IsRowOf ranges row → IsAhead cmp (record { path = picked ranges places; here = fresh }) row
          → IsNumberOfTests cmp l ranges after (Some row) number → tests ≤ number
      tests-before_row row number m a it =
          let long : length row ≡ length ranges = IsRowOf-length ranges row m in
          let here : reaches cmp fresh (picked ranges places) row ≡ true =
          IsAhead-to cmp given.total given.ties fresh (picked ranges places) row (let f = within.few in omega (arith, f, long, length-picked ranges places within)) a in
          let le = number-le (Passed (picked ranges places) (λ tail. fresh)) (λ x. IsWalked cmp l ranges after x × IsUpTo cmp (Some row) x.0) counted.0 number counted.1 it
          (λ x w. (
            w.0,
            IsUpTo-from cmp given.total row x.0
                (let s = short x w.0 in omega (arith, s, long))
                (elim (cases_Bool (reaches cmp false row x.0)) [
                  | inl y ↦ absurd (false≢true (sym w.1 ∙ further fresh (picked ranges places) row x.0 here y))
                  | inr z ↦ z
                ]),
          )) in
          let t : tests ≡ cut counted.0 = counted.2 in omega (arith, cut-le counted.0)

      pub tests-before_end : (number : ℕ) → IsNumberOfTests cmp l ranges after None number → tests ≤ number
      tests-before_end number it =
          let le = number-le (Passed (picked ranges places) (λ tail. fresh)) (λ x. IsWalked cmp l ranges after x × IsUpTo cmp None x.0) counted.0 number counted.1 it (λ x w. (w.0, tt)) in
          let t : tests ≡ cut counted.0 = counted.2 in omega (arith, cut-le counted.0)

      pub tests-within_bound : (limit : ℕ) → IsBound l ranges limit → tests ≤ limit
      tests-within_bound limit it =
          let le = number-le (Passed (picked ranges places) (λ tail. fresh)) (IsDueTest l ranges) counted.0 limit counted.1 it (λ x w. let v = w.0 in v.is_pair) in
          let t : tests ≡ cut counted.0 = counted.2 in omega (arith, cut-le counted.0)

  -- at the end all tests are passed
  pub tests-all : (tests : ℕ) → Counts cmp l ranges after [] none_of tests → (number : ℕ) × IsNumberOfTests cmp l ranges after None number × (tests ≡ cut number)
  tests-all tests (number, count, is) = (
    number,
    number-same (Passed [] none_of) (λ x. IsWalked cmp l ranges after x × IsUpTo cmp None x.0) number (λ x w. (w.0, tt)) (λ x w. (w.0, refl)) count,
    is,
  )

  -- at first none is
  pub counts-first : Counts cmp l ranges after [] all_of 0
  counts-first = (0, number-none (Passed [] all_of) (λ x w. false≢true (sym w.1)), refl)

pub basis-of : {V : Type 0} {cmp : V → V → Ordering} {l : Conjuncts V} {used : ℕ → ℕ
    → Bool} {trees : List Tree} {ranges : List (List V)} {after : Option (List V)} {planned : Plan} → IsTotalOrder cmp → HaveOneTruth l → KeepTruths l
    → IsSound cmp l used trees ranges after planned
    → Basis cmp l ranges after
basis-of o one keep sound = record { total = o; ties = sound.ties; one_truth = one; kept = keep; named = sound.named }

-- a row on which none is False that needs fewer values, where each conjunct is a leaf
pub kept-below : {V : Type 0} (l : Conjuncts V) (trees : List Tree) (k : ℕ) (row : List V) (t : Truth) → IsFlat l.number trees → t ≢ False → IsSoFar l trees row (NeedsBelow l trees k) t
    → (c : ℕ) → c < l.number → l.due c < k → l.says c row True ⊎ l.says c row Out
kept-below l trees k row t flat ne h c m low =
    let is : tree_at trees c ≡ leaf c = flat.leaves c m in
    let d : due_of l (tree_at trees c) < k = subst (λ tree. due_of l tree < k) (sym is) low in
    subst (λ tree. IsTreeTruth l tree row True ⊎ IsTreeTruth l tree row Out) is (so-kept l trees (NeedsBelow l trees k) row t ne h c (let n = flat.number in omega (arith, n, m)) d)

-- the leaves that are due on a row, where each conjunct is a leaf
module _ {V : Type 0} (l : Conjuncts V) (trees : List Tree) (k : ℕ) (leaves : List ℕ) (flat : IsFlat l.number trees) (due : AreDue l trees k (length trees) leaves) where
  as-leaf : (j : ℕ) → j < length trees → tree_at trees j ≡ leaf j
  as-leaf j m = flat.leaves j (let n = flat.number in omega (arith, n, m))

  pub due-ascending : AllPairs (λ i j. i < j) leaves
  due-ascending = due.ascending as-leaf

  same-leaf : (b c : ℕ) → leaf b ≡ leaf c → b ≡ c
  same-leaf b c e = cc

  pub due-here : (i : ℕ) → i < length leaves → (get_or leaves i 0 < l.number) × (l.due (get_or leaves i 0) ≡ k)
  due-here i near =
      let c = get_or leaves i 0 in
      let w = due.only c (i, near, get_or_default leaves i c 0 near) in
      let same : w.0 ≡ c = same-leaf w.0 c (sym (as-leaf w.0 w.1) ∙ w.2.0) in
      (let n = flat.number in omega (arith, n, same, w.1), w.2.1)

  pub due-all : (c : ℕ) → c < l.number → l.due c ≡ k → (i : ℕ) × (i < length leaves) × (get_or leaves i 0 ≡ c)
  due-all c m e =
      let f = due.all c c (let n = flat.number in omega (arith, n, m)) (flat.leaves c m, e) in
      (f.0, f.1, get_or_default leaves f.0 0 c f.1 ∙ f.2)

-- ---- places

module _ {V : Type 0} {cmp : V → V → Ordering} {l : Conjuncts V} {ranges : List (List V)} {after : Option (List V)} (given : Basis cmp l ranges after) where
  -- a place at a row that is ahead
  module _ (p : Place) (f : p.fresh ≡ true) (choices : List (Option (List ℕ))) (old new : ℕ) (h : IsCounted cmp l ranges after p old choices) where
    pub counted-here : Counts cmp l ranges after (path ranges p) all_of old
    counted-here = subst (λ b. Counts cmp l ranges after (path ranges p) (λ tail. b) old) f h.counts

    pub counted-still : Counts cmp l ranges after (path ranges p) all_of new → IsCounted cmp l ranges after p new choices
    counted-still k = record { counts = subst (λ b. Counts cmp l ranges after (path ranges p) (λ tail. b) new) (sym f) k; whole = h.whole; unseen = h.unseen }

  pub found-false : (line : List V) (t : Truth) (tests : ℕ) → t ≡ False → CountsFound cmp l ranges after line t tests → Counts cmp l ranges after line none_of tests
  found-false line False tests e h = h
  found-false line True tests e h = absurd (cc)
  found-false line Out tests e h = absurd (cc)

  pub found-other : (line : List V) (t : Truth) (tests : ℕ) → t ≢ False → CountsFound cmp l ranges after line t tests → Counts cmp l ranges after line below_it tests
  found-other line False tests ne h = absurd (ne refl)
  found-other line True tests ne h = h
  found-other line Out tests ne h = h

  module _ (p q : Place) (at : IsAt ranges p) (asc : AreAscending cmp ranges) (choices : List (Option (List ℕ))) where
    pub counted-descends : (first new : ℕ) → IsCounted cmp l ranges after p first choices → p.depth < length ranges → length choices ≡ length ranges → (choice : Option (List ℕ)) → choice ≡ None
        → Counts cmp l ranges after (path ranges p) below_it new → LandsNext (length (get_or ranges p.depth [])) (get_or (set choices p.depth choice) p.depth None) p.depth 0 p q
        → IsCounted cmp l ranges after q new (set choices p.depth choice)
    counted-descends first new h near long choice none k lands =
        let here : get_or (set choices p.depth choice) p.depth None ≡ None = get_or-set_same choices p.depth choice None (omega (arith, long)) ∙ none in
        let next = subst (λ w. LandsNext (length (get_or ranges p.depth [])) w p.depth 0 p q) here lands in
        record {
          counts = counts-descends given p q new at near (asc p.depth [] near) k next;
          whole = λ i. elim (cases_eq i p.depth) [
            | inl is ↦ ap (λ j. get_or (set choices p.depth choice) j None) is ∙ here
            | inr other ↦ get_or-set_other choices p.depth i choice None other ∙ h.whole i
          ];
          unseen = λ i. ap (λ ss. get_or ss i unseen) lands.2.1 ∙ h.unseen i;
        }

    pub counted-retreats : (tests k : ℕ) → IsCounted cmp l ranges after p tests choices → p.fresh ≡ false → p.depth ≡ k + 1
        → LandsNext (length (get_or ranges k [])) (get_or choices k None) k (get_or p.places.items k 0 + 1) p q → IsCounted cmp l ranges after q tests choices
    counted-retreats tests k h f d lands =
        let next = subst (λ w. LandsNext (length (get_or ranges k [])) w k (get_or p.places.items k 0 + 1) p q) (h.whole k) lands in
        record {
          counts = counts-retreats given p q tests k at d (asc k [] (omega (arith, at.shallow))) (subst (λ b. Counts cmp l ranges after (path ranges p) (λ tail. b) tests) f h.counts) next;
          whole = h.whole;
          unseen = λ i. ap (λ ss. get_or ss i unseen) lands.2.1 ∙ h.unseen i;
        }

  -- ---- what a step answers

  -- the row up to which the tests are counted
  abbrev pub answered : Step → List V → Option (List V)
  answered Holds row = Some row
  answered Breaks row = Some row
  answered End row = None

  over-fresh : (b : Bool) (d : ℕ) → cond b false (eqb d 0) ≡ true → (b ≡ false) × (d ≡ 0)
  over-fresh true d e = absurd (false≢true e)
  over-fresh false d e = (refl, eqb-true d 0 e)

  module _ (s : Conjuncts V) (p q : Place) (at : IsAt ranges q) (tests : ℕ) (choices : List (Option (List ℕ))) (h : IsCounted cmp l ranges after q tests choices) where
    whole-tests : (row : List V) → ahead_of ranges q ≡ past row → q.depth ≡ length ranges → (number : ℕ) × IsNumberOfTests cmp l ranges after (Some (path ranges q)) number × (tests ≡ cut number)
    whole-tests row passed d = tests-up_to given (bound q) at.within tests (length-bound ranges q at ∙ d)
        (subst (λ b. Counts cmp l ranges after (path ranges q) (λ tail. b) tests) (ap (λ a. a.here) passed) h.counts)

    pub answered-tests : (step : Step) → Gives cmp s ranges after p step q → (number : ℕ) × IsNumberOfTests cmp l ranges after (answered step (path ranges q)) number × (tests ≡ cut number)
    answered-tests Holds g = let t = g.0 in whole-tests (path ranges q) t.passed g.1
    answered-tests Breaks g = let t = g.0 in whole-tests (path ranges q) t.passed g.1
    answered-tests End g =
        let over = over-fresh q.fresh q.depth g.2 in
        let none : path ranges q ≡ [] = ap (λ k. picked ranges (take k q.places.items)) over.1 ∙ picked-nil ranges in
        tests-all given tests (subst (λ r. Counts cmp l ranges after r none_of tests) none (subst (λ b. Counts cmp l ranges after (path ranges q) (λ tail. b) tests) over.0 h.counts))

  -- nothing is counted where no value is bound
  pub counted-first : (p : Place) (tests : ℕ) (choices : List (Option (List ℕ))) → p.depth ≡ 0 → p.fresh ≡ true → tests ≡ 0
      → ((k : ℕ) → get_or choices k None ≡ None) → ((k : ℕ) → seen_at p k ≡ unseen) → IsCounted cmp l ranges after p tests choices
  counted-first p tests choices d f e none nothing = record {
    counts =
        let none : path ranges p ≡ [] = ap (λ k. picked ranges (take k p.places.items)) d ∙ picked-nil ranges in
        subst (λ b. Counts cmp l ranges after (path ranges p) (λ tail. b) tests) (sym f)
        (subst (λ r. Counts cmp l ranges after r all_of tests) (sym none) (subst (Counts cmp l ranges after [] all_of) (sym e) (counts-first given)));
    whole = none;
    unseen = nothing;
  }
