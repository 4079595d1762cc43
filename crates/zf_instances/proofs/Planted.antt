-- What is planted of a predicate has its truths.
use Rattle.zf_instances.proofs.Prelude.{◌++◌, ◌+◌, ◌<◌, ◌↔◌, ◌∙◌, ◌∷◌, ◌≡◌, ◌≤◌, ◌⊎◌, [], ap, arith, inl, inr, length, List, map, max, refl, Some, subst, suc, sym, zero, ℕ, ⊎_elim, All, slice_get, unwrap_or, Truth, SayTheSame, Grove, Grows, Takes, trees_made, trees_of, both, either, HasLeavesWithin, HaveLeavesWithin, IsOfBoth, IsOfEither, IsTreeTruth, leaf, negated, opposite, planted, Tree, tree_at, Value, Not, of-Binary, of-Unary, binary, resolved_of, ResolvedTree, unary, Resolved, Environment, in_row, IsTruth, IsConjunction, IsDisjunction, ArePlanted, IsPlanted, NeedWithin, Plants, PlantsNext, due, HasTruth, property, told, Operator, Unary, Connective, Span}
use Rattle.zf_tree.specs.declared.symbol.Connective as connective
use Rattle.zf_tree.specs.declared.symbol.Connective.TheVariants as connectives
use Rattle.zf_term.specs.declared.resolved.Resolved.TheVariants as form
use Rattle.zf_value.specs.declared.value.Truth as value
use Rattle.zf_walk.specs.declared.judge.Truth.TheVariants.{True, False, Out}
use Rattle.zf_outcome.specs.Truths as meaning
use Rattle.zf_enum.proofs.Dues.{due_need}
use Rattle.zf_instances.proofs.Naming.{tree_truth}

-- ---- connectives of a tree and of a predicate

opposite_same : (P : Truth → Type 0) (R : value.Truth → Type 0) → ((t : Truth) → P t ↔ R (told t)) → (t : Truth) → P (opposite t) ↔ R (meaning.opposite (told t))
opposite_same P R f True = f False
opposite_same P R f False = f True
opposite_same P R f Out = f Out

both_same : (P Q : Truth → Type 0) (R S : value.Truth → Type 0) → ((t : Truth) → P t ↔ R (told t)) → ((t : Truth) → Q t ↔ S (told t))
    → (t : Truth) → IsOfBoth P Q t ↔ IsConjunction R S (told t)
both_same P Q R S f g True = (λ h. ((f True).0 h.0, (g True).0 h.1), λ h. ((f True).1 h.0, (g True).1 h.1))
both_same P Q R S f g False = (⊎_elim (λ a. inl ((f False).0 a)) (λ b. inr ((g False).0 b)), ⊎_elim (λ a. inl ((f False).1 a)) (λ b. inr ((g False).1 b)))
both_same P Q R S f g Out = (
  λ h. ⊎_elim
      (λ p. inl ((f Out).0 p, ⊎_elim (λ q. inl ((g True).0 q)) (λ q. inr ((g Out).0 q)) h.1))
      (λ q. ⊎_elim (λ p. inr ((f True).0 p, (g Out).0 q)) (λ p. inl ((f Out).0 p, inr ((g Out).0 q))) h.0)
      h.2,
  ⊎_elim
      (λ h. (inr ((f Out).1 h.0), ⊎_elim (λ q. inl ((g True).1 q)) (λ q. inr ((g Out).1 q)) h.1, inl ((f Out).1 h.0)))
      (λ h. (inl ((f True).1 h.0), inr ((g Out).1 h.1), inr ((g Out).1 h.1))),
)

either_same : (P Q : Truth → Type 0) (R S : value.Truth → Type 0) → ((t : Truth) → P t ↔ R (told t)) → ((t : Truth) → Q t ↔ S (told t))
    → (t : Truth) → IsOfEither P Q t ↔ IsDisjunction R S (told t)
either_same P Q R S f g True = (⊎_elim (λ a. inl ((f True).0 a)) (λ b. inr ((g True).0 b)), ⊎_elim (λ a. inl ((f True).1 a)) (λ b. inr ((g True).1 b)))
either_same P Q R S f g False = (λ h. ((f False).0 h.0, (g False).0 h.1), λ h. ((f False).1 h.0, (g False).1 h.1))
either_same P Q R S f g Out = (
  λ h. ⊎_elim
      (λ p. inl ((f Out).0 p, ⊎_elim (λ q. inl ((g False).0 q)) (λ q. inr ((g Out).0 q)) h.1))
      (λ q. ⊎_elim (λ p. inr ((f False).0 p, (g Out).0 q)) (λ p. inl ((f Out).0 p, inr ((g Out).0 q))) h.0)
      h.2,
  ⊎_elim
      (λ h. (inr ((f Out).1 h.0), ⊎_elim (λ q. inl ((g False).1 q)) (λ q. inr ((g Out).1 q)) h.1, inl ((f Out).1 h.0)))
      (λ h. (inl ((f False).1 h.0), inr ((g Out).1 h.1), inr ((g Out).1 h.1))),
)

-- ---- further leaves change no truth

leaf_stays : (xs ys : List Resolved) (i : ℕ) → i < length (map resolved_of xs) → slice_get (map resolved_of (xs ++ ys)) i ≡ slice_get (map resolved_of xs) i
leaf_stays [] ys i l = absurd (omega arith)
leaf_stays (x ∷ xs) ys zero l = refl
leaf_stays (x ∷ xs) ys (suc i) l = leaf_stays xs ys i (omega arith)

truths_stay : (e : Environment) (xs ys : List Resolved) (row : List Value) (tree : Tree) (t : Truth) → HasLeavesWithin (length (map resolved_of xs)) tree
    → IsTreeTruth (property e (map resolved_of (xs ++ ys))) tree row t ↔ IsTreeTruth (property e (map resolved_of xs)) tree row t
truths_stay e xs ys row tree t l =
    let n = length (map resolved_of xs) in
    let more = property e (map resolved_of (xs ++ ys)) in
    let few = property e (map resolved_of xs) in (
      tree_truth n more few row (λ c u k h. subst (λ p. HasTruth e row p (told u)) (leaf_stays xs ys c k) h) tree l t,
      tree_truth n few more row (λ c u k h. subst (λ p. HasTruth e row p (told u)) (sym (leaf_stays xs ys c k)) h) tree l t,
    )

longer : (xs ys : List Resolved) → length (map resolved_of xs) ≤ length (map resolved_of (xs ++ ys))
longer [] ys = omega arith
longer (x ∷ xs) ys = let r = longer xs ys in omega (arith, r)

within_more : (n m : ℕ) (tree : Tree) → n ≤ m → HasLeavesWithin n tree → HasLeavesWithin m tree
within_more n m (leaf c) l h = omega (arith, l, h)
within_more n m (negated a) l h = within_more n m a l h
within_more n m (both a b) l h = (within_more n m a l h.0, within_more n m b l h.1)
within_more n m (either a b) l h = (within_more n m a l h.0, within_more n m b l h.1)

pub planted_more : (xs ys : List Resolved) (p : ResolvedTree) (tree : Tree) → IsPlanted (map resolved_of xs) p tree → IsPlanted (map resolved_of (xs ++ ys)) p tree
planted_more xs ys p tree h = record {
  within = within_more (length (map resolved_of xs)) (length (map resolved_of (xs ++ ys))) tree (longer xs ys) h.within;
  same = λ e row t. let stay = truths_stay e xs ys row tree t h.within in (λ k. (h.same e row t).0 (stay.0 k), λ k. stay.1 ((h.same e row t).1 k));
}

-- ---- one tree more

assoc : {A : Type 0} → (xs ys zs : List A) → (xs ++ ys) ++ zs ≡ xs ++ (ys ++ zs)
assoc [] ys zs = refl
assoc (x ∷ xs) ys zs = ap (λ r. x ∷ r) (assoc xs ys zs)

tree_stays : (xs ys : List Tree) (i : ℕ) → i < length xs → tree_at (xs ++ ys) i ≡ tree_at xs i
tree_stays [] ys i l = absurd (omega arith)
tree_stays (x ∷ xs) ys zero l = refl
tree_stays (x ∷ xs) ys (suc i) l = tree_stays xs ys i (omega arith)

tree_last : (xs : List Tree) (x : Tree) → tree_at (xs ++ x ∷ []) (length xs) ≡ x
tree_last [] x = refl
tree_last (y ∷ xs) x = tree_last xs x

last_within : (xs : List Tree) (x : Tree) → length xs < length (xs ++ x ∷ [])
last_within [] x = omega arith
last_within (y ∷ xs) x = let r = last_within xs x in omega (arith, r)

leaf_last : (xs : List Resolved) (x : Resolved) → slice_get (map resolved_of (xs ++ x ∷ [])) (length xs) ≡ Some (resolved_of x)
leaf_last [] x = refl
leaf_last (y ∷ xs) x = leaf_last xs x

leaf_within : (xs : List Resolved) (x : Resolved) → length xs < length (map resolved_of (xs ++ x ∷ []))
leaf_within [] x = omega arith
leaf_within (y ∷ xs) x = let r = leaf_within xs x in omega (arith, r)

-- a predicate as a leaf of its own
pub leaf_planted : (xs : List Resolved) (x : Resolved) → IsPlanted (map resolved_of (xs ++ x ∷ [])) (resolved_of x) (leaf (length xs))
leaf_planted xs x = record {
  within = leaf_within xs x;
  same = λ e row t. let at = leaf_last xs x in (λ h. subst (λ p. HasTruth e row p (told t)) at h, λ h. subst (λ p. HasTruth e row p (told t)) (sym at) h);
}

-- the connectives
pub not_planted : (ls : List ResolvedTree) (l : Span) (p : ResolvedTree) (a : Tree) → IsPlanted ls p a → IsPlanted ls (unary l Not p) (negated a)
not_planted ls l p a h = record {
  within = h.within;
  same = λ e row t. opposite_same (IsTreeTruth (property e ls) a row) (IsTruth (in_row e row) p) (h.same e row) t;
}

pub and_planted : (ls : List ResolvedTree) (l : Span) (p q : ResolvedTree) (a b : Tree) → IsPlanted ls p a → IsPlanted ls q b → IsPlanted ls (binary l (Connective connectives.And) p q) (both a b)
and_planted ls l p q a b h k = record {
  within = (h.within, k.within);
  same = λ e row t. both_same (IsTreeTruth (property e ls) a row) (IsTreeTruth (property e ls) b row) (IsTruth (in_row e row) p) (IsTruth (in_row e row) q) (h.same e row) (k.same e row) t;
}

pub or_planted : (ls : List ResolvedTree) (l : Span) (p q : ResolvedTree) (a b : Tree) → IsPlanted ls p a → IsPlanted ls q b → IsPlanted ls (binary l (Connective connectives.Or) p q) (either a b)
or_planted ls l p q a b h k = record {
  within = (h.within, k.within);
  same = λ e row t. either_same (IsTreeTruth (property e ls) a row) (IsTreeTruth (property e ls) b row) (IsTruth (in_row e row) p) (IsTruth (in_row e row) q) (h.same e row) (k.same e row) t;
}

-- an implication is the disjunction of the left side's negation and the right side
pub implies_planted : (ls : List ResolvedTree) (l : Span) (p q : ResolvedTree) (a b : Tree) → IsPlanted ls (unary l Not p) a → IsPlanted ls q b
    → IsPlanted ls (binary l (Connective connectives.Implies) p q) (either a b)
implies_planted ls l p q a b h k = record {
  within = (h.within, k.within);
  same = λ e row t. either_same (IsTreeTruth (property e ls) a row) (IsTreeTruth (property e ls) b row) (λ u. IsTruth (in_row e row) p (meaning.opposite u))
      (IsTruth (in_row e row) q) (h.same e row) (k.same e row) t;
}

-- ---- how many components the leaves need

pub due_binary : (l : Span) (op : Operator) (p q : ResolvedTree) → due (binary l op p q) ≡ max (due p) (due q)
due_binary l op p q =
    let m = due (binary l op p q) + (due p + due q) in
    omega (arith, due_need m (binary l op p q) (omega arith), due_need m p (omega arith), due_need m q (omega arith))

leaf_needs : (n : ℕ) (xs : List Resolved) (x : Resolved) → NeedWithin n (map resolved_of xs) → due (resolved_of x) ≤ n → NeedWithin n (map resolved_of (xs ++ x ∷ []))
leaf_needs n [] x h l zero = l
leaf_needs n [] x h l (suc c) = omega arith
leaf_needs n (y ∷ xs) x h l zero = h zero
leaf_needs n (y ∷ xs) x h l (suc c) = leaf_needs n xs x (λ d. h (suc d)) l c

-- ---- steps

-- the tree that is grown stands at its place
grown : (g h : Grove) (tree : Tree) (place : ℕ) → Grows g tree place h → tree_at (trees_made h) place ≡ tree
grown g h tree place r =
    subst (λ i. tree_at (trees_made h) i ≡ tree) (sym r.place) (subst (λ ts. tree_at ts (length (trees_made g)) ≡ tree) (sym r.made) (tree_last (trees_made g) tree))

grown_within : (g h : Grove) (tree : Tree) (place : ℕ) → Grows g tree place h → place < length (trees_made h)
grown_within g h tree place r =
    subst (λ i. i < length (trees_made h)) (sym r.place) (subst (λ ts. length (trees_made g) < length ts) (sym r.made) (last_within (trees_made g) tree))

pub plants_leaf : (xs : List Resolved) (g h : Grove) (x : Resolved) (place : ℕ) → Grows g (leaf (length xs)) place h → Plants xs g (resolved_of x) place (xs ++ x ∷ []) h
plants_leaf xs g h x place r = record {
  leaves = (x ∷ [], refl);
  trees = (leaf (length xs) ∷ [], r.made);
  within = grown_within g h (leaf (length xs)) place r;
  planted = subst (λ t. IsPlanted (map resolved_of (xs ++ x ∷ [])) (resolved_of x) t) (sym (grown g h (leaf (length xs)) place r)) (leaf_planted xs x);
  conjuncts = r.trees;
  needs = λ n h l. leaf_needs n xs x h l;
}

-- one more tree, over one that was planted
pub plants_over : (xs ys : List Resolved) (g h i : Grove) (p q : ResolvedTree) (a place : ℕ) (tree : Tree)
    → Plants xs g p a ys h → Grows h tree place i → IsPlanted (map resolved_of ys) q tree → due p ≤ due q → Plants xs g q place ys i
plants_over xs ys g h i p q a place tree r s t l = record {
  leaves = r.leaves;
  trees = (r.trees.0 ++ tree ∷ [], s.made ∙ ap (λ ts. ts ++ tree ∷ []) r.trees.1 ∙ assoc (trees_made g) r.trees.0 (tree ∷ []));
  within = grown_within h i tree place s;
  planted = subst (λ t. IsPlanted (map resolved_of ys) q t) (sym (grown h i tree place s)) t;
  conjuncts = s.trees ∙ r.conjuncts;
  needs = λ n h m. r.needs n h (omega (arith, l, m));
}

-- one after another, and one more tree over both
pub plants_both : (xs ys zs : List Resolved) (g h i j : Grove) (p q r : ResolvedTree) (a b place : ℕ) (tree : Tree)
    → Plants xs g p a ys h → Plants ys h q b zs i → Grows i tree place j
    → (IsPlanted (map resolved_of zs) p (tree_at (trees_made i) a) → IsPlanted (map resolved_of zs) q (tree_at (trees_made i) b) → IsPlanted (map resolved_of zs) r tree)
    → due p ≤ due r → due q ≤ due r → Plants xs g r place zs j
plants_both xs ys zs g h i j p q r a b place tree u v w f dp dq =
    let first : IsPlanted (map resolved_of zs) p (tree_at (trees_made i) a) =
    subst (λ ls. IsPlanted (map resolved_of ls) p (tree_at (trees_made i) a)) (sym v.leaves.1)
    (subst (λ ts. IsPlanted (map resolved_of (ys ++ v.leaves.0)) p (tree_at ts a)) (sym v.trees.1)
    (subst (λ t. IsPlanted (map resolved_of (ys ++ v.leaves.0)) p t) (sym (tree_stays (trees_made h) v.trees.0 a u.within)) (planted_more ys v.leaves.0 p (tree_at (trees_made h) a) u.planted))) in
    record {
      leaves = (u.leaves.0 ++ v.leaves.0, v.leaves.1 ∙ ap (λ l. l ++ v.leaves.0) u.leaves.1 ∙ assoc xs u.leaves.0 v.leaves.0);
      trees = (
        u.trees.0 ++ (v.trees.0 ++ tree ∷ []),
        w.made ∙ ap (λ ts. ts ++ tree ∷ []) (v.trees.1 ∙ ap (λ ts. ts ++ v.trees.0) u.trees.1 ∙ assoc (trees_made g) u.trees.0 v.trees.0)
            ∙ assoc (trees_made g) (u.trees.0 ++ v.trees.0) (tree ∷ []) ∙ ap (λ ts. trees_made g ++ ts) (assoc u.trees.0 v.trees.0 (tree ∷ [])),
      );
      within = grown_within i j tree place w;
      planted = subst (λ t. IsPlanted (map resolved_of zs) r t) (sym (grown i j tree place w)) (f first v.planted);
      conjuncts = w.trees ∙ v.conjuncts ∙ u.conjuncts;
      needs = λ n k m. v.needs n (u.needs n k (omega (arith, dp, m))) (omega (arith, dq, m));
    }

-- ---- connectives

pub unary_seen : (t : Resolved) (l : Span) (op : Unary) (x y : Resolved) → t ≡ form.Unary l op x → op ≡ Not → y ≡ x → resolved_of t ≡ unary l Not (resolved_of y)
unary_seen t l op x y e f s =
    ap resolved_of e ∙ of-Unary l op x ∙ ap (λ o. unary l o (resolved_of x)) f ∙ ap (λ z. unary l Not (resolved_of z)) (sym s)

pub binary_seen : (t : Resolved) (l : Span) (op : Operator) (j k : connective.Connective) (a b x y : Resolved) → t ≡ form.Binary l op a b → op ≡ Connective j → j ≡ k → x ≡ a → y ≡ b
    → resolved_of t ≡ binary l (Connective k) (resolved_of x) (resolved_of y)
binary_seen t l op j k a b x y e f c s u =
    ap resolved_of e ∙ of-Binary l op a b ∙ ap (λ o. binary l o (resolved_of a) (resolved_of b)) (f ∙ ap Connective c)
    ∙ ap (λ z. binary l (Connective k) (resolved_of z) (resolved_of b)) (sym s) ∙ ap (λ z. binary l (Connective k) (resolved_of x) (resolved_of z)) (sym u)

unary_due : (l : Span) (p : ResolvedTree) → due p ≤ due (unary l Not p)
unary_due l p = let same : due p ≤ due p = omega arith in same

pub plants_not : (xs ys : List Resolved) (g h i : Grove) (t p : ResolvedTree) (l : Span) (a place : ℕ) → t ≡ unary l Not p
    → Plants xs g p a ys h → Grows h (negated (tree_at (trees_made h) a)) place i → Plants xs g t place ys i
plants_not xs ys g h i t p l a place e u w =
    let tree = tree_at (trees_made h) a in
    subst (λ q. Plants xs g q place ys i) (sym e) (plants_over xs ys g h i p (unary l Not p) a place (negated tree) u w (not_planted (map resolved_of ys) l p tree u.planted) (unary_due l p))

-- both sides of a connective; what is planted in place of the left one needs as many components
pub plants_joined : (xs ys zs : List Resolved) (g h i j : Grove) (t p q r : ResolvedTree) (k : connective.Connective) (l : Span) (a b place : ℕ) (tree : Tree)
    → t ≡ binary l (Connective k) p q → due r ≡ due p → Plants xs g r a ys h → Plants ys h q b zs i → Grows i tree place j
    → (IsPlanted (map resolved_of zs) r (tree_at (trees_made i) a) → IsPlanted (map resolved_of zs) q (tree_at (trees_made i) b)
    → IsPlanted (map resolved_of zs) (binary l (Connective k) p q) tree) → Plants xs g t place zs j
plants_joined xs ys zs g h i j t p q r k l a b place tree e low u v w joined =
    let both = due_binary l (Connective k) p q in
    subst (λ s. Plants xs g s place zs j) (sym e)
    (plants_both xs ys zs g h i j r q (binary l (Connective k) p q) a b place tree u v w joined (omega (arith, both, low)) (omega (arith, both)))

-- ---- all conjuncts

some_is : {A : Type 0} → (x y : A) → Some x ≡ Some y → x ≡ y
some_is x y e = ap (λ o. unwrap_or o x) e

-- what holds at each place of two lists, and of what is pushed to both
each_pushed : (P : ResolvedTree → Tree → Type 0) (ps : List ResolvedTree) (ts : List Tree) (p : ResolvedTree) (t : Tree) → length ts ≡ length ps
    → ((c : ℕ) (q : ResolvedTree) → slice_get ps c ≡ Some q → P q (tree_at ts c)) → P p t → (c : ℕ) (q : ResolvedTree) → slice_get (ps ++ p ∷ []) c ≡ Some q → P q (tree_at (ts ++ t ∷ []) c)
each_pushed P [] [] p t n h k zero q e = subst (λ r. P r t) (some_is p q e) k
each_pushed P [] [] p t n h k (suc c) q e = absurd (cc e)
each_pushed P [] (s ∷ ts) p t n h k c q e = absurd (omega (arith, n))
each_pushed P (r ∷ ps) [] p t n h k c q e = absurd (omega (arith, n))
each_pushed P (r ∷ ps) (s ∷ ts) p t n h k zero q e = h zero q e
each_pushed P (r ∷ ps) (s ∷ ts) p t n h k (suc c) q e = each_pushed P ps ts p t (omega (arith, n)) (λ d. h (suc d)) k c q e

pushed_length : {A B : Type 0} (xs : List A) (ys : List B) (x : A) (y : B) → length xs ≡ length ys → length (xs ++ x ∷ []) ≡ length (ys ++ y ∷ [])
pushed_length [] [] x y h = refl
pushed_length [] (z ∷ ys) x y h = absurd (omega (arith, h))
pushed_length (z ∷ xs) [] x y h = absurd (omega (arith, h))
pushed_length (z ∷ xs) (w ∷ ys) x y h = ap suc (pushed_length xs ys x y (omega (arith, h)))

fewer_need : (n : ℕ) (ps : List ResolvedTree) (p : ResolvedTree) → NeedWithin n (ps ++ p ∷ []) → NeedWithin n ps
fewer_need n [] p h c = omega arith
fewer_need n (q ∷ ps) p h zero = h zero
fewer_need n (q ∷ ps) p h (suc c) = fewer_need n ps p (λ d. h (suc d)) c

last_needs : (n : ℕ) (ps : List ResolvedTree) (p : ResolvedTree) → NeedWithin n (ps ++ p ∷ []) → due p ≤ n
last_needs n [] p h = h zero
last_needs n (q ∷ ps) p h = last_needs n ps p (λ d. h (suc d))

pub next_planted : (xs ys : List Resolved) (g h i : Grove) (p : ResolvedTree) (a : ℕ) → Plants xs g p a ys h → Takes h a i → PlantsNext xs g p ys i
next_planted xs ys g h i p a u v ps k =
    let trees : trees_of i ≡ trees_of g ++ tree_at (trees_made h) a ∷ [] = v.trees ∙ ap (λ ts. ts ++ tree_at (trees_made h) a ∷ []) u.conjuncts in
    record {
      number = ap length trees ∙ pushed_length (trees_of g) ps (tree_at (trees_made h) a) p k.number;
      each = λ c q e. subst (λ ts. IsPlanted (map resolved_of ys) q (tree_at ts c)) (sym trees)
          (each_pushed (IsPlanted (map resolved_of ys)) ps (trees_of g) p (tree_at (trees_made h) a) k.number
          (λ d r f. subst (λ ls. IsPlanted (map resolved_of ls) r (tree_at (trees_of g) d)) (sym u.leaves.1) (planted_more xs u.leaves.0 r (tree_at (trees_of g) d) (k.each d r f))) u.planted c q e);
      needs = λ n b. u.needs n (k.needs n (fewer_need n ps p b)) (last_needs n ps p b);
    }

-- ---- what was planted says the same

there : (ps : List ResolvedTree) (c : ℕ) → c < length ps → (p : ResolvedTree) × (slice_get ps c ≡ Some p)
there [] c l = absurd (omega arith)
there (p ∷ ps) zero l = (p, refl)
there (p ∷ ps) (suc c) l = there ps c (omega arith)

pub say_the_same : (ps : List ResolvedTree) (leaves : List Resolved) (trees : List Tree) → ArePlanted ps leaves trees → (e : Environment)
    → SayTheSame (planted (property e (map resolved_of leaves)) trees) (property e ps)
say_the_same ps leaves trees h e = record {
  number = h.number;
  says = λ c l row t.
      let at = there ps c (omega (arith, h.number, l)) in
      let same = (h.each c at.0 at.1).same e row t in
      (λ k. subst (λ p. HasTruth e row p (told t)) (sym at.1) (same.0 k), λ k. same.1 (subst (λ p. HasTruth e row p (told t)) at.1 k));
}

all_at : (P : Tree → Type 0) (ts : List Tree) → ((c : ℕ) → c < length ts → P (tree_at ts c)) → All P ts
all_at P [] h k d l = absurd (omega arith)
all_at P (t ∷ ts) h zero d l = h zero (omega arith)
all_at P (t ∷ ts) h (suc k) d l = all_at P ts (λ c m. h (suc c) (omega (arith, m))) k d (omega arith)

pub leaves_within : (ps : List ResolvedTree) (leaves : List Resolved) (trees : List Tree) → ArePlanted ps leaves trees → HaveLeavesWithin (length (map resolved_of leaves)) trees
leaves_within ps leaves trees h = all_at (HasLeavesWithin (length (map resolved_of leaves))) trees (λ c l. let at = there ps c (omega (arith, h.number, l)) in (h.each c at.0 at.1).within)
