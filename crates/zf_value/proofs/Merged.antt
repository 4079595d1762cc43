-- Two ascending lists, merged.
use Rattle.zf_value.proofs.Prelude.{◌++◌, ◌+◌, ◌<◌, ◌↔◌, ◌∙◌, ◌∷◌, ◌≡◌, ◌≤◌, ◌⊎◌, [], add-one, ap, arith, drop, Equal, get_or, Greater, inl, inr, length, Less, List, subst, suc, sym, take, ℕ, ⊎_elim, append-nil, take-append-drop, ordering_reverse, IsAscending, IsMember, value_order, IsJoined, Value, AllByRecursion, total-law}
use Rattle.std.proofs.Math.Seq.{drop-cons, append_snoc}
use Rattle.std.proofs.Math.ListN.{drop_of_length-le}
use Rattle.zf_value.proofs.Among.{every_from, every_at, members-append, members-push, members-take_more}
use Rattle.zf_value.proofs.Exact.{exact}

-- what is out is in order before what is left of each list, and has the members of what was taken of both
pub record IsMerging (a b : List Value) (i j : ℕ) (out : List Value) : Type 0 where
  pub left : IsAscending (out ++ drop i a)
  pub right : IsAscending (out ++ drop j b)
  pub joined : IsJoined (take i a) (take j b) out
  pub in_a : i ≤ length a
  pub in_b : j ≤ length b

pub merging_none : (a b out : List Value) → out ≡ [] → IsAscending a → IsAscending b → IsMerging a b 0 0 out
unfolding IsJoined
merging_none a b out e h k = subst (IsMerging a b 0 0) (sym e) (record { left = h; right = k; joined = λ w. (λ m. absurd m, λ m. ⊎_elim (λ n. n) (λ n. n) m); in_a = omega arith; in_b = omega arith })

-- one that is less than all that is left of the other list comes next
below_all : (x y : Value) (ys : List Value) → value_order x y ≡ Less → AllByRecursion (λ z. value_order y z ≡ Less) ys → AllByRecursion (λ z. value_order x z ≡ Less) ys
below_all x y ys l h = every_from _ ys (λ z m. total-law.trans x y z l (every_at _ ys z h m))

every_put : (P : Value → Type 0) (out : List Value) (x : Value) (xs ys : List Value) → AllByRecursion P (out ++ x ∷ xs) → AllByRecursion P (out ++ ys) → AllByRecursion P ((out ++ x ∷ []) ++ ys)
every_put P [] x xs ys h k = (h.0, k)
every_put P (z ∷ out) x xs ys h k = (h.0, every_put P out x xs ys h.1 k.1)

ascending_put : (out : List Value) (x : Value) (xs : List Value) (y : Value) (ys : List Value) → value_order x y ≡ Less → IsAscending (out ++ x ∷ xs)
    → IsAscending (out ++ y ∷ ys) → IsAscending ((out ++ x ∷ []) ++ y ∷ ys)
ascending_put [] x xs y ys l h k = ((l, below_all x y ys l k.0), k)
ascending_put (z ∷ out) x xs y ys l h k = (every_put _ out x xs (y ∷ ys) h.0 k.0, ascending_put out x xs y ys l h.1 k.1)

-- ---- a step

at_place : (xs : List Value) (i : ℕ) (x : Value) → x ≡ get_or xs i x → i < length xs → drop i xs ≡ x ∷ drop (i + 1) xs
at_place xs i x e l = rw add-one (drop-cons xs i x l ∙ ap (λ y. y ∷ drop (suc i) xs) (sym e))

-- the next of the list itself
same_left : (out xs : List Value) (i : ℕ) (x : Value) → x ≡ get_or xs i x → i < length xs → IsAscending (out ++ drop i xs) → IsAscending ((out ++ x ∷ []) ++ drop (i + 1) xs)
same_left out xs i x e l h = subst IsAscending (ap (λ ys. out ++ ys) (at_place xs i x e l) ∙ sym (append_snoc out x (drop (i + 1) xs))) h

-- the next of the other list, which is less
other_left : (out xs ys : List Value) (i j : ℕ) (x y : Value) → x ≡ get_or xs i x → i < length xs → y ≡ get_or ys j y → j < length ys → value_order x y ≡ Less
    → IsAscending (out ++ drop i xs) → IsAscending (out ++ drop j ys) → IsAscending ((out ++ x ∷ []) ++ drop j ys)
other_left out xs ys i j x y e l f m o h k =
    let first = subst (λ us. IsAscending (out ++ us)) (at_place xs i x e l) h in
    let second = subst (λ us. IsAscending (out ++ us)) (at_place ys j y f m) k in
    subst (λ us. IsAscending ((out ++ x ∷ []) ++ us)) (sym (at_place ys j y f m)) (ascending_put out x (drop (i + 1) xs) y (drop (j + 1) ys) o first second)

joined_left : (a b out : List Value) (i j : ℕ) (x : Value) → x ≡ get_or a i x → i < length a → IsJoined (take i a) (take j b) out → IsJoined (take (i + 1) a) (take j b) (out ++ x ∷ [])
unfolding IsJoined
joined_left a b out i j x e l h w =
    let more = members-take_more a i x e l w in
    let push = members-push out x w in
    rw add-one (
      λ m. ⊎_elim (λ n. ⊎_elim (λ p. inl (more.1 (inl p))) (λ q. inr q) ((h w).0 n)) (λ s. inl (more.1 (inr s))) (push.0 m),
      λ m. ⊎_elim (λ p. ⊎_elim (λ n. push.1 (inl ((h w).1 (inl n)))) (λ s. push.1 (inr s)) (more.0 p)) (λ q. push.1 (inl ((h w).1 (inr q)))) m,
    )

joined_turned : (a b out : List Value) → IsJoined a b out → IsJoined b a out
unfolding IsJoined
joined_turned a b out h w = (λ m. ⊎_elim (λ p. inr p) (λ q. inl q) ((h w).0 m), λ m. (h w).1 (⊎_elim (λ p. inr p) (λ q. inl q) m))

merging_turned : (a b : List Value) (i j : ℕ) (out : List Value) → IsMerging a b i j out → IsMerging b a j i out
merging_turned a b i j out h = record { left = h.right; right = h.left; joined = joined_turned (take i a) (take j b) out h.joined; in_a = h.in_b; in_b = h.in_a }

merging_left : (a b : List Value) (i j : ℕ) (out : List Value) (x y : Value) → x ≡ get_or a i x → i < length a → y ≡ get_or b j y → j < length b
    → value_order x y ≡ Less → IsMerging a b i j out → IsMerging a b (i + 1) j (out ++ x ∷ [])
merging_left a b i j out x y e l f m o h =
    record {
      left = same_left out a i x e l h.left;
      right = other_left out a b i j x y e l f m o h.left h.right;
      joined = joined_left a b out i j x e l h.joined;
      in_a = omega (arith, l);
      in_b = h.in_b;
    }

-- the next of the first list is less
pub merging_less : (a b : List Value) (i j : ℕ) (out new : List Value) (x y v : Value) → x ≡ get_or a i x → i < length a → y ≡ get_or b j y → j < length b
    → Less ≡ value_order x y → v ≡ x → new ≡ out ++ v ∷ [] → IsMerging a b i j out → IsMerging a b (i + 1) j new
merging_less a b i j out new x y v e l f m o k n h =
    subst (IsMerging a b (i + 1) j) (sym (n ∙ ap (λ u. out ++ u ∷ []) k)) (merging_left a b i j out x y e l f m (sym o) h)

-- that of the second is
pub merging_greater : (a b : List Value) (i j : ℕ) (out new : List Value) (x y v : Value) → x ≡ get_or a i x → i < length a → y ≡ get_or b j y → j < length b
    → Greater ≡ value_order x y → v ≡ y → new ≡ out ++ v ∷ [] → IsMerging a b i j out → IsMerging a b i (j + 1) new
merging_greater a b i j out new x y v e l f m o k n h =
    subst (IsMerging a b i (j + 1)) (sym (n ∙ ap (λ u. out ++ u ∷ []) k))
    (merging_turned b a (j + 1) i _ (merging_left b a j i out y x f m e l (greater_turned x y (sym o)) (merging_turned a b i j out h)))
  where
    greater_turned : (u w : Value) → value_order u w ≡ Greater → value_order w u ≡ Less
    greater_turned u w g = total-law.antisymm w u ∙ ap ordering_reverse g

joined_both : (a b out : List Value) (i j : ℕ) (x : Value) → x ≡ get_or a i x → i < length a → x ≡ get_or b j x → j < length b
    → IsJoined (take i a) (take j b) out → IsJoined (take (i + 1) a) (take (j + 1) b) (out ++ x ∷ [])
unfolding IsJoined
joined_both a b out i j x e l f m h w =
    let first = members-take_more a i x e l w in
    let second = members-take_more b j x f m w in
    let push = members-push out x w in
    rw (add-one i, add-one j) (
      λ n. ⊎_elim (λ p. ⊎_elim (λ q. inl (first.1 (inl q))) (λ q. inr (second.1 (inl q))) ((h w).0 p)) (λ s. inl (first.1 (inr s))) (push.0 n),
      λ n. ⊎_elim (λ p. ⊎_elim (λ q. push.1 (inl ((h w).1 (inl q)))) (λ s. push.1 (inr s)) (first.0 p)) (λ p. ⊎_elim (λ q. push.1 (inl ((h w).1 (inr q)))) (λ s. push.1 (inr s)) (second.0 p)) n,
    )

merging_both : (a b : List Value) (i j : ℕ) (out : List Value) (x : Value) → x ≡ get_or a i x → i < length a → x ≡ get_or b j x → j < length b
    → IsMerging a b i j out → IsMerging a b (i + 1) (j + 1) (out ++ x ∷ [])
merging_both a b i j out x e l f m h =
    record {
      left = same_left out a i x e l h.left;
      right = same_left out b j x f m h.right;
      joined = joined_both a b out i j x e l f m h.joined;
      in_a = omega (arith, l);
      in_b = omega (arith, m);
    }

-- the next of both is one
pub merging_equal : (a b : List Value) (i j : ℕ) (out new : List Value) (x y v : Value) → x ≡ get_or a i x → i < length a → y ≡ get_or b j y → j < length b
    → Equal ≡ value_order x y → v ≡ x → new ≡ out ++ v ∷ [] → IsMerging a b i j out → IsMerging a b (i + 1) (j + 1) new
merging_equal a b i j out new x y v e l f m o k n h =
    let same : x ≡ get_or b j x = subst (λ u. u ≡ get_or b j u) (sym (exact x y (sym o))) f in
    subst (IsMerging a b (i + 1) (j + 1)) (sym (n ∙ ap (λ u. out ++ u ∷ []) k)) (merging_both a b i j out x e l same m h)

-- ---- the end

members-parts : (xs : List Value) (n : ℕ) (w : Value) → IsMember w xs ↔ (IsMember w (take n xs) ⊎ IsMember w (drop n xs))
members-parts xs n w = subst (λ us. IsMember w us ↔ (IsMember w (take n xs) ⊎ IsMember w (drop n xs))) (take-append-drop n xs) (members-append (take n xs) (drop n xs) w)

-- what is left of both comes after
merged_joined : (a b : List Value) (i j : ℕ) (out : List Value) → IsJoined (take i a) (take j b) out → IsJoined a b ((out ++ drop i a) ++ drop j b)
unfolding IsJoined
merged_joined a b i j out h w =
    let all = members-append (out ++ drop i a) (drop j b) w in
    let some = members-append out (drop i a) w in
    let first = members-parts a i w in
    let second = members-parts b j w in (
      λ m. ⊎_elim (λ n. ⊎_elim (λ p. ⊎_elim (λ q. inl (first.1 (inl q))) (λ q. inr (second.1 (inl q))) ((h w).0 p)) (λ p. inl (first.1 (inr p))) (some.0 n)) (λ n. inr (second.1 (inr n))) (all.0 m),
      λ m. ⊎_elim (λ n. all.1 (inl (⊎_elim (λ p. some.1 (inl ((h w).1 (inl p)))) (λ p. some.1 (inr p)) (first.0 n))))
          (λ n. ⊎_elim (λ p. all.1 (inl (some.1 (inl ((h w).1 (inr p)))))) (λ p. all.1 (inr p)) (second.0 n)) m,
    )

merged_ascending : (a b : List Value) (i j : ℕ) (out : List Value) → (length a ≤ i) ⊎ (length b ≤ j) → IsMerging a b i j out → IsAscending ((out ++ drop i a) ++ drop j b)
merged_ascending a b i j out d h =
    ⊎_elim (λ l. subst (λ us. IsAscending (us ++ drop j b)) (sym (ap (λ us. out ++ us) (drop_of_length-le a l) ∙ append-nil out)) h.right)
    (λ l. subst IsAscending (sym (ap (λ us. (out ++ drop i a) ++ us) (drop_of_length-le b l) ∙ append-nil (out ++ drop i a))) h.left) d

pub merged_all : (a b : List Value) (i j : ℕ) (out first all : List Value) → (length a ≤ i) ⊎ (length b ≤ j) → IsMerging a b i j out → first ≡ out ++ drop i a
    → all ≡ first ++ drop j b → IsAscending all × IsJoined a b all
merged_all a b i j out first all d h e f =
    let is : all ≡ (out ++ drop i a) ++ drop j b = f ∙ ap (λ us. us ++ drop j b) e in
    (subst IsAscending (sym is) (merged_ascending a b i j out d h), subst (IsJoined a b) (sym is) (merged_joined a b i j out h.joined))
