-- The moves of a search: the same events are ahead, and fewer steps.
use Rattle.zf_plan.proofs.Prelude.{◌*◌, ◌++◌, ◌+◌, ◌-◌, ◌<◌, ◌∙◌, ◌∷◌, ◌≡◌, ◌≤◌, [], ap, arith, Bool, cond, drop, false, get_or, inl, inr, length, List, None, Option, refl, set, Some, subst, suc, sym, take, true, ℕ, cases_eq, cases_lt, drop_more, get_or-take, length-set, length-take-le, take-set-le, take-take, take_more, take_more_set, IsTotalOrder, AllPairs, Ordering, Equal, Greater, Less, greater-at, IsNth, less-at, nth, reaches-push, reaches-under, tied-at, AreWithin-push, AreWithin-take, length-picked, nth-at, picked-push, Conjuncts, Event, IsEvent, AreWithin, picked, above, below, first_of, reaches, under, AreAscending, IsRowOf, TiesAreEqual, Truth, Tells, bound, IsAt, KeepsEvents, Lands, path, steps_left, Place, cut, Renews, Marks}
use Rattle.std.proofs.Math.Nat.{mul-le-mul_right}
use Rattle.zf_plan.proofs.Forgetting.{AreForgotten}

-- what the row has after a road is a row of the ranges after it
pub tail-row : {V : Type 0} (road tail : List V) (ranges : List (List V)) → IsRowOf ranges (road ++ tail) → IsRowOf (drop (length road) ranges) tail
tail-row [] tail ranges m = m
tail-row (x ∷ road) tail [] m = absurd m
tail-row (x ∷ road) tail (r ∷ ranges) m = tail-row road tail ranges m.1

-- ---- how many steps are left

above-nil : {V : Type 0} (ranges : List (List V)) → above ranges [] ≡ 0
above-nil [] = refl
above-nil (r ∷ ranges) = refl

pub above-push : {V : Type 0} (ranges : List (List V)) (places : List ℕ) (i : ℕ) (range : List V) (later : List (List V)) → drop (length places) ranges ≡ range ∷ later
    → above ranges (places ++ i ∷ []) ≡ above ranges places + ((length range - suc i) * below later + 1)
above-push [] [] i range later e = cc
above-push [] (j ∷ places) i range later e = cc
above-push (r ∷ ranges) [] i range later e =
    let p : r ≡ range = cc in let q : ranges ≡ later = cc in let z : above later [] ≡ 0 = above-nil later in rw (p, q) (omega arith)
above-push (r ∷ ranges) (j ∷ places) i range later e = let ih = above-push ranges places i range later e in omega (arith, ih)

pub enough : {V : Type 0} (rs : List (List V)) → 2 ≤ below rs
enough [] = omega arith
enough (r ∷ rs) = omega arith

-- ---- what is ahead in a range

-- a test that holds of the values of a range from a place on
pub record IsFrontier {V : Type 0} (range : List V) (f : ℕ) (F : List V → Bool) : Type 0 where
  pub ahead : (m : ℕ) (v : V) (tail : List V) → IsNth range m v → f ≤ m → F (v ∷ tail) ≡ true
  pub behind : (m : ℕ) (v : V) (tail : List V) → IsNth range m v → m < f → F (v ∷ tail) ≡ false

module _ {V : Type 0} (cmp : V → V → Ordering) (o : IsTotalOrder cmp) (ties : TiesAreEqual cmp) where
  -- two tests under a road agree on a row where they agree on what it has after the road
  pub same-under : (road : List V) (f g : List V → Bool) (row : List V) → ((tail : List V) → road ++ tail ≡ row → f tail ≡ g tail) → under cmp road f row ≡ under cmp road g row
  same-under [] f g row h = h row refl
  same-under (x ∷ road) f g [] h = refl
  same-under (x ∷ road) f g (v ∷ row) h = go (cmp x v) refl (λ e. same-under road f g row (λ tail q. h tail (let s : x ≡ v = ties x v e in cc))) where
    go : (q : Ordering) → cmp x v ≡ q → (cmp x v ≡ Equal → under cmp road f row ≡ under cmp road g row) → first_of q (under cmp road f row) ≡ first_of q (under cmp road g row)
    go Less e k = refl
    go Equal e k = k e
    go Greater e k = refl

  module _ (range : List V) where
    pub frontier-first : IsFrontier range 0 (λ _. true)
    frontier-first = record { ahead = λ m v tail n h. refl; behind = λ m v tail n h. absurd (omega arith) }

    pub frontier-last : (g : ℕ) → length range ≤ g → IsFrontier range g (λ _. false)
    frontier-last g l = record { ahead = λ m v tail n h. absurd (let w = n.within in omega arith); behind = λ m v tail n h. refl }

    module _ (r : AllPairs (λ v w. cmp v w ≡ Less) range) (i : ℕ) (x : V) (n : IsNth range i x) where
      pub frontier-past : IsFrontier range (i + 1) (reaches cmp false (x ∷ []))
      frontier-past = record {
        ahead = λ m v tail w h. ap (λ q. first_of q false) (less-at cmp o range i m x v r n w (omega arith));
        behind = λ m v tail w h. elim (cases_eq m i) [
          | inl e ↦ ap (λ q. first_of q false) (tied-at cmp o range i m x v n w (sym e))
          | inr ne ↦ ap (λ q. first_of q false) (greater-at cmp o range i m x v r n w (omega arith))
        ];
      }

      pub frontier-at : IsFrontier range i (reaches cmp true (x ∷ []))
      frontier-at = record {
        ahead = λ m v tail w h. elim (cases_eq m i) [
          | inl e ↦ ap (λ q. first_of q true) (tied-at cmp o range i m x v n w (sym e))
          | inr ne ↦ ap (λ q. first_of q true) (less-at cmp o range i m x v r n w (omega arith))
        ];
        behind = λ m v tail w h. ap (λ q. first_of q true) (greater-at cmp o range i m x v r n w h);
      }

  -- from one place of a range to a later one, where no value between them makes this row
  module _ (ranges : List (List V)) (road range : List V) (later : List (List V)) (split : drop (length road) ranges ≡ range ∷ later) (row : List V) (m : IsRowOf ranges row)
      (f g : ℕ) (F G : List V → Bool) (before : IsFrontier range f F) (after : IsFrontier range g G) (up : f ≤ g)
      (skip : (k : ℕ) (v : V) (tail : List V) → f ≤ k → k < g → IsNth range k v → road ++ v ∷ tail ≡ row → ⊥) where
    behind-road : (tail : List V) → road ++ tail ≡ row → IsRowOf (range ∷ later) tail → F tail ≡ G tail
    behind-road [] e t = absurd t
    behind-road (v ∷ tail) e t = go (nth range v t.0) where
      go : ((k : ℕ) × IsNth range k v) → F (v ∷ tail) ≡ G (v ∷ tail)
      go (k, w) = elim (cases_lt k f) [
        | inl low ↦ before.behind k v tail w low ∙ sym (after.behind k v tail w (omega arith))
        | inr high ↦ elim (cases_lt k g) [
          | inl between ↦ absurd (skip k v tail high between w e)
          | inr over ↦ before.ahead k v tail w high ∙ sym (after.ahead k v tail w over)
        ]
      ]

    pub crossed : under cmp road F row ≡ under cmp road G row
    crossed = same-under road F G row (λ tail e. behind-road tail e (subst (λ rs. IsRowOf rs tail) split (tail-row road tail ranges (subst (IsRowOf ranges) (sym e) m))))

-- ---- places

module _ {V : Type 0} (ranges : List (List V)) (p : Place) (at : IsAt ranges p) where
  pub within-front : (i : ℕ) → i ≤ p.depth → AreWithin ranges (take i p.places.items)
  within-front i h = subst (AreWithin ranges) (take-take i p.depth p.places.items h) (AreWithin-take ranges (take p.depth p.places.items) i at.within)

  length-places : (i : ℕ) → i ≤ p.depth → length (take i p.places.items) ≡ i
  length-places i h = length-take-le i p.places.items (omega (arith, at.all_places, at.shallow))

  pub length-front : (i : ℕ) → i ≤ p.depth → length (picked ranges (take i p.places.items)) ≡ i
  length-front i h = length-picked ranges (take i p.places.items) (within-front i h) ∙ length-places i h

  pub length-bound : length (bound p) ≡ p.depth
  length-bound = length-places p.depth (omega arith)

  pub length-path : length (path ranges p) ≡ p.depth
  length-path = length-front p.depth (omega arith)

  -- the last value of a path
  pub last-value : (k : ℕ) → p.depth ≡ k + 1 → (x : V) × IsNth (get_or ranges k []) (get_or p.places.items k 0) x
      × (path ranges p ≡ picked ranges (take k p.places.items) ++ x ∷ []) × (bound p ≡ take k p.places.items ++ get_or p.places.items k 0 ∷ [])
  last-value k d =
      let le : k ≤ p.depth = omega arith in
      let more : bound p ≡ take k p.places.items ++ get_or p.places.items k 0 ∷ [] =
      ap (λ j. take j p.places.items) d ∙ take_more p.places.items k 0 (omega (arith, at.all_places, at.shallow)) in
      let long = length-places k le in
      let inside : get_or p.places.items k 0 < length (get_or ranges k []) = last-within k d in
      let n = nth-at (get_or ranges k []) (get_or p.places.items k 0) inside in
      let n' : IsNth (get_or ranges (length (take k p.places.items)) []) (get_or p.places.items k 0) n.0 = rw long n.1 in
      (n.0, n.1, ap (picked ranges) more ∙ picked-push ranges (take k p.places.items) (get_or p.places.items k 0) n.0 (within-front k le) (omega (arith, at.shallow)) n', more) where
        last-within : (k : ℕ) → p.depth ≡ k + 1 → get_or p.places.items k 0 < length (get_or ranges k [])
        last-within k d =
            let a : k < length (take p.depth p.places.items) = omega (arith, length-places p.depth (omega arith)) in
            let w : get_or (take p.depth p.places.items) k 0 < length (get_or ranges k []) = (at.within).each k a in
            let e : get_or (take p.depth p.places.items) k 0 ≡ get_or p.places.items k 0 = get_or-take p.depth p.places.items k 0 (omega arith) in
            subst (λ i. i < length (get_or ranges k [])) e w

-- how a place stands to range k: from which place of it on its values are ahead
pub record IsFrom {V : Type 0} (cmp : V → V → Ordering) (ranges : List (List V)) (p : Place) (k : ℕ) (road : List V) (f : ℕ) : Type 0 where
  pub test : List V → Bool
  pub reaches_so : (row : List V) → reaches cmp p.fresh (path ranges p) row ≡ under cmp road test row
  pub frontier : IsFrontier (get_or ranges k []) f test
  pub left : steps_left ranges p ≡ above ranges (take k p.places.items) + (length (get_or ranges k []) - f) * below (drop (k + 1) ranges) + 2

-- what a landing at range k leaves
pub record Landed {V : Type 0} (cmp : V → V → Ordering) (s : Conjuncts V) (ranges : List (List V)) (after : Option (List V)) (p : Place) (k : ℕ) (q : Place) : Type 0 where
  pub at : IsAt ranges q
  pub same : KeepsEvents cmp s ranges after p q
  pub smaller : steps_left ranges q < steps_left ranges p
  pub deep : q.depth ≤ k + 1
  pub fronts : (i : ℕ) → i ≤ k → take i (bound q) ≡ take i (bound p)

module _ {V : Type 0} (cmp : V → V → Ordering) (o : IsTotalOrder cmp) (ties : TiesAreEqual cmp) (ranges : List (List V)) (asc : AreAscending cmp ranges)
    (p : Place) (at : IsAt ranges p) (k : ℕ) (near : k < length ranges) where
  -- before the first value
  pub from-fresh : p.fresh ≡ true → p.depth ≡ k → IsFrom cmp ranges p k (picked ranges (take k p.places.items)) 0
  from-fresh f d = record {
    test = λ _. true;
    reaches_so = λ row. ap (λ b. reaches cmp b (path ranges p) row) f ∙ ap (λ j. reaches cmp true (picked ranges (take j p.places.items)) row) d
        ∙ reaches-under cmp o true (picked ranges (take k p.places.items)) row;
    frontier = frontier-first cmp o ties (get_or ranges k []);
    left =
        let a : steps_left ranges p ≡ below (drop k ranges) + above ranges (take k p.places.items) =
        ap (λ b. cond b (below (drop p.depth ranges)) 1 + above ranges (bound p)) f ∙ ap (λ j. below (drop j ranges) + above ranges (take j p.places.items)) d in
        let e : below (drop k ranges) ≡ 2 + length (get_or ranges k []) * below (drop (k + 1) ranges) = ap below (drop_more ranges k [] near) in
        let z : (length (get_or ranges k []) - 0) * below (drop (k + 1) ranges) ≡ length (get_or ranges k []) * below (drop (k + 1) ranges) = ap (λ n. n * below (drop (k + 1) ranges)) (omega arith) in
        omega (arith, a, e, z);
  }

  -- past the last value that was bound
  pub from-past : p.fresh ≡ false → p.depth ≡ k + 1 → IsFrom cmp ranges p k (picked ranges (take k p.places.items)) (get_or p.places.items k 0 + 1)
  from-past f d =
      let was = last-value ranges p at k d in
      let x = was.0 in
      let i = get_or p.places.items k 0 in
      record {
        test = reaches cmp false (x ∷ []);
        reaches_so = λ row. ap (λ b. reaches cmp b (path ranges p) row) f ∙ ap (λ r. reaches cmp false r row) was.2
            ∙ reaches-push cmp o false (picked ranges (take k p.places.items)) x row;
        frontier = frontier-past cmp o ties (get_or ranges k []) (asc k [] near) i x was.1;
        left =
            let a : steps_left ranges p ≡ 1 + above ranges (take k p.places.items ++ i ∷ []) =
            ap (λ b. cond b (below (drop p.depth ranges)) 1 + above ranges (bound p)) f ∙ ap (λ is. 1 + above ranges is) was.3 in
            let long = length-places ranges p at k (omega arith) in
            let e = above-push ranges (take k p.places.items) i (get_or ranges k []) (drop (k + 1) ranges) (ap (λ n. drop n ranges) long ∙ drop_more ranges k [] near) in
            let z : (length (get_or ranges k []) - suc i) * below (drop (k + 1) ranges)
            ≡ (length (get_or ranges k []) - (i + 1)) * below (drop (k + 1) ranges) = ap (λ n. n * below (drop (k + 1) ranges)) (omega arith) in
            omega (arith, a, e, z);
      }

  peel : (x y b : ℕ) → x ≡ suc y → x * b ≡ b + y * b
  peel x y b e = rw e (omega arith)

  module _ (s : Conjuncts V) (after : Option (List V)) (deep : k ≤ p.depth) (f g : ℕ) (up : f ≤ g) (from : IsFrom cmp ranges p k (picked ranges (take k p.places.items)) f) (q : Place)
      (skip : (e : Event V) → IsEvent cmp s ranges after e → (m : ℕ) (v : V) (tail : List V) → f ≤ m → m < g → IsNth (get_or ranges k []) m v
      → picked ranges (take k p.places.items) ++ v ∷ tail ≡ e.row → ⊥) where
    split : drop (length (picked ranges (take k p.places.items))) ranges ≡ get_or ranges k [] ∷ drop (k + 1) ranges
    split = ap (λ n. drop n ranges) (length-front ranges p at k deep) ∙ drop_more ranges k [] near

    keeps : (G : List V → Bool) → IsFrontier (get_or ranges k []) g G → ((row : List V)
        → reaches cmp q.fresh (path ranges q) row ≡ under cmp (picked ranges (take k p.places.items)) G row) → KeepsEvents cmp s ranges after p q
    keeps G w h e ev =
        from.reaches_so e.row
        ∙ crossed cmp o ties ranges (picked ranges (take k p.places.items)) (get_or ranges k []) (drop (k + 1) ranges) split e.row ev.within f g from.test G from.frontier w up (skip e ev)
        ∙ sym (h e.row)

    falls : (length (get_or ranges k []) - g) * below (drop (k + 1) ranges) ≤ (length (get_or ranges k []) - f) * below (drop (k + 1) ranges)
    falls = let h : length (get_or ranges k []) - g ≤ length (get_or ranges k []) - f = omega arith in mul-le-mul_right (below (drop (k + 1) ranges)) h

    on-value : q.found.items ≡ p.found.items → q.seen.items ≡ p.seen.items → g < length (get_or ranges k []) → q.places.items ≡ set p.places.items k g
        → q.depth ≡ k + 1 → q.fresh ≡ true → Renews (k + 1) p.marks q.marks → Landed cmp s ranges after p k q
    on-value found seen l ps d fr renews =
        let n = nth-at (get_or ranges k []) g l in
        let y = n.0 in
        let long = length-places ranges p at k deep in
        let held : k < length p.places.items = omega (arith, at.all_places) in
        let n' : IsNth (get_or ranges (length (take k p.places.items)) []) g y = subst (λ j. IsNth (get_or ranges j []) g y) (sym long) n.1 in
        let inner = within-front ranges p at k deep in
        let stairs : bound q ≡ take k p.places.items ++ g ∷ [] = ap (λ j. take j q.places.items) d ∙ ap (take (k + 1)) ps ∙ take_more_set p.places.items k g held in
        let there : path ranges q ≡ picked ranges (take k p.places.items) ++ y ∷ [] = ap (picked ranges) stairs ∙ picked-push ranges (take k p.places.items) g y inner (omega arith) n' in
        record {
          at = record {
            all_places = ap length ps ∙ length-set p.places.items k g ∙ at.all_places;
            all_found = ap length found ∙ at.all_found;
            shallow = omega arith;
            all_stamps = ap length renews.stamps ∙ length-set p.marks.stamps.items (k + 1) (cut (get_or p.marks.stamps.items (k + 1) 0 + 1)) ∙ at.all_stamps;
            all_marks = ap length renews.choices ∙ at.all_marks;
            all_seen = ap length seen ∙ at.all_seen;
            within = subst (AreWithin ranges) (sym stairs) (AreWithin-push ranges (take k p.places.items) g y inner (omega arith) n');
          };
          same = keeps (reaches cmp true (y ∷ [])) (frontier-at cmp o ties (get_or ranges k []) (asc k [] near) g y n.1)
              (λ row. ap (λ b. reaches cmp b (path ranges q) row) fr ∙ ap (λ r. reaches cmp true r row) there ∙ reaches-push cmp o true (picked ranges (take k p.places.items)) y row);
          smaller =
              let a : steps_left ranges q ≡ below (drop (k + 1) ranges) + above ranges (take k p.places.items ++ g ∷ []) =
              ap (λ b. cond b (below (drop q.depth ranges)) 1 + above ranges (bound q)) fr ∙ ap (λ j. below (drop j ranges) + above ranges (bound q)) d
              ∙ ap (λ is. below (drop (k + 1) ranges) + above ranges is) stairs in
              let e = above-push ranges (take k p.places.items) g (get_or ranges k []) (drop (k + 1) ranges) (ap (λ j. drop j ranges) long ∙ drop_more ranges k [] near) in
              let z = peel (length (get_or ranges k []) - g) (length (get_or ranges k []) - suc g) (below (drop (k + 1) ranges)) (omega arith) in
              omega (arith, a, e, z, falls, from.left);
          deep = omega arith;
          fronts = λ i h. take-take i q.depth q.places.items (omega arith) ∙ ap (take i) ps ∙ take-set-le i p.places.items k g h ∙ sym (take-take i p.depth p.places.items (omega arith));
        }

    past-row : q.found.items ≡ p.found.items → q.seen.items ≡ p.seen.items → length (get_or ranges k []) ≤ g → q.places.items ≡ p.places.items → q.depth ≡ k
        → q.fresh ≡ false → q.marks ≡ p.marks → Landed cmp s ranges after p k q
    past-row found seen l ps d fr marks =
        let stairs : bound q ≡ take k p.places.items = ap (λ j. take j q.places.items) d ∙ ap (take k) ps in
        record {
          at = record {
            all_places = ap length ps ∙ at.all_places;
            all_found = ap length found ∙ at.all_found;
            shallow = omega arith;
            all_stamps = ap (λ (m : Marks). length m.stamps.items) marks ∙ at.all_stamps;
            all_marks = ap (λ (m : Marks). length m.choices.items) marks ∙ at.all_marks;
            all_seen = ap length seen ∙ at.all_seen;
            within = subst (AreWithin ranges) (sym stairs) (within-front ranges p at k deep);
          };
          same = keeps (λ _. false) (frontier-last cmp o ties (get_or ranges k []) g l)
              (λ row. ap (λ b. reaches cmp b (path ranges q) row) fr ∙ ap (λ is. reaches cmp false (picked ranges is) row) stairs
              ∙ reaches-under cmp o false (picked ranges (take k p.places.items)) row);
          smaller =
              let a : steps_left ranges q ≡ 1 + above ranges (take k p.places.items) = ap
              (λ b. cond b (below (drop q.depth ranges)) 1 + above ranges (bound q)) fr ∙ ap (λ is. 1 + above ranges is) stairs in
              omega (arith, a, from.left);
          deep = omega arith;
          fronts = λ i h. take-take i q.depth q.places.items (omega arith) ∙ ap (take i) ps ∙ sym (take-take i p.depth p.places.items (omega arith));
        }

    pub landed : Lands (length (get_or ranges k [])) k g p q → Landed cmp s ranges after p k q
    landed (found, seen, inl a) = on-value found seen a.0 a.1 a.2 a.3 a.4
    landed (found, seen, inr a) = past-row found seen a.0 a.1 a.2 a.3 a.4

-- what was found stays right where the leaves that need one value more are forgotten
pub tells-landed : {V : Type 0} (l : Conjuncts V) (ranges : List (List V)) (k : ℕ) (places new : List ℕ) (old told : List (Option Truth)) → Tells l ranges places old → AreForgotten l (k + 1) old told
    → k ≤ length places → length new ≤ k + 1 → ((i : ℕ) → i ≤ k → take i new ≡ take i places) → Tells l ranges new told
tells-landed l ranges k places new old told tells g deep short fronts = record {
  all = g.all ∙ tells.all;
  right = λ c t m d e. elim (cases_eq (l.due c) (k + 1)) [
    | inl here ↦ absurd (let z : get_or told c None ≡ None = g.none c m here in let y : get_or told c None ≡ Some t = e in cc)
    | inr ne ↦
        let low : l.due c ≤ k = omega arith in
        subst (λ is. l.says c (picked ranges is) t) (sym (fronts (l.due c) low)) (tells.right c t m (omega arith) (sym (g.others c m ne) ∙ e))
  ];
}
