-- The relations from a set to a set are the subsets of the product.
use Rattle.zf_families.proofs.Prelude.{◌*◌, ◌++◌, ◌+◌, ◌<◌, ◌^◌, ◌∙◌, ◌∷◌, ◌≡◌, [], ap, arith, inl, inr, length, Less, List, map, min, refl, subst, suc, sym, zero, ℕ, ⊎_elim, pow-succ', pow-zero, cases_lt, length-append, length-map, flat_map, every_from, members-append, IsRelationThat, pair, IsAscending, IsMember, value_order, AreAmong, SetOf, Value, fits_any, pairs, singles, some, IsPairFrom, AllByRecursion}
use Rattle.zf_families.proofs.Told.{Tells}
use Rattle.zf_families.proofs.Subsets.{power_told}
use Rattle.zf_families.proofs.Comparisons.{member_map, from_member_map, below_rest, first_below, pairs_ascending}

abbrev pub product_of : List Value → List Value → List Value
product_of a b = flat_map (pairs b) a

every_append : (P : Value → Type 0) (xs ys : List Value) → AllByRecursion P xs → AllByRecursion P ys → AllByRecursion P (xs ++ ys)
every_append P [] ys h k = k
every_append P (x ∷ xs) ys h k = (h.0, every_append P xs ys h.1 k)

ascending_append : (xs ys : List Value) → IsAscending xs → IsAscending ys → ((x y : Value) → IsMember x xs → IsMember y ys → value_order x y ≡ Less) → IsAscending (xs ++ ys)
ascending_append [] ys h k f = k
ascending_append (x ∷ xs) ys h k f = (
  every_append (λ y. value_order x y ≡ Less) xs ys h.0 (every_from (λ y. value_order x y ≡ Less) ys (λ y m. f x y (inl refl) m)),
  ascending_append xs ys h.1 k (λ z y m n. f z y (inr m) n),
)

product_to : (a b : List Value) (z : Value) → IsMember z (product_of a b) → IsPairFrom a b z
unfolding IsPairFrom
product_to [] b z m = absurd m
product_to (x ∷ a) b z m = ⊎_elim
    (λ l. let q = from_member_map (pair x) b z l in (x, q.0, sym q.1, inl refl, q.2))
    (λ r. let q = product_to a b z r in (q.0, q.1, q.2, inr q.3, q.4))
    ((members-append (pairs b x) (product_of a b) z).0 m)

product_from : (a b : List Value) (x y : Value) → IsMember x a → IsMember y b → IsMember (pair x y) (product_of a b)
product_from [] b x y m n = absurd m
product_from (u ∷ a) b x y m n = ⊎_elim
    (λ e. (members-append (pairs b u) (product_of a b) (pair x y)).1 (inl (subst (λ w. IsMember (pair x y) (pairs b w)) (sym e) (member_map (pair x) b y n))))
    (λ k. (members-append (pairs b u) (product_of a b) (pair x y)).1 (inr (product_from a b x y k n))) m

pub product_ascending : (a b : List Value) → IsAscending a → IsAscending b → IsAscending (product_of a b)
unfolding IsPairFrom
product_ascending [] b h k = tt
product_ascending (x ∷ a) b h k =
    ascending_append (pairs b x) (product_of a b) (pairs_ascending x b k) (product_ascending a b h.1 k)
    (λ u v m n.
    let p = from_member_map (pair x) b u m in
    let q = product_to a b v n in
    subst (λ w. value_order w v ≡ Less) p.1 (subst (λ w. value_order (pair x p.0) w ≡ Less) (sym q.2) (first_below x p.0 q.0 q.1 (below_rest x a q.0 h q.3))))

pub relations_told : (a b : List Value) → IsAscending a → IsAscending b → Tells SetOf (IsRelationThat (λ r. Unit {0}) a b) ([] ∷ some fits_any (singles (product_of a b)))
unfolding AreAmong IsPairFrom
relations_told a b h k =
    let t = power_told (product_of a b) (product_ascending a b h k) in
    record {
      kept = t.kept;
      ordered = t.ordered;
      passes = λ r m. let p = t.passes r m in (p.0, p.1, p.2, λ z n. product_to a b z (p.3 z n), tt);
      found = λ z p. t.found z (p.0, p.1, p.2, λ u n. let q = p.3 u n in subst (λ w. IsMember w (product_of a b)) (sym q.2) (product_from a b q.0 q.1 q.3 q.4));
    }

pub length_product : (a b : List Value) → length (product_of a b) ≡ length a * length b
length_product [] b = grind arith
length_product (x ∷ a) b =
    let here : length (pairs b x) ≡ length b = length-map b (pair x) in
    length-append (pairs b x) (product_of a b) ∙ ap (λ n. n + length (product_of a b)) here ∙ ap (λ n. length b + n) (length_product a b) ∙ grind arith

lt_two_pow : (n : ℕ) → n < 2 ^ n
lt_two_pow zero = let e : 2 ^ zero ≡ 1 = pow-zero 2 in omega (arith, e)
lt_two_pow (suc n) = let e : 2 ^ suc n ≡ 2 * 2 ^ n = pow-succ' 2 n in let h = lt_two_pow n in omega (arith, e, h)

-- a power of two of a count that was cut
pub min_power : (n c : ℕ) → min (2 ^ min n c) c ≡ min (2 ^ n) c
min_power n c = ⊎_elim
    (λ l. let e : min n c ≡ n = omega arith in ap (λ k. min (2 ^ k) c) e)
    (λ l. let e : min n c ≡ c = omega arith in
    let p : c < 2 ^ c = lt_two_pow c in
    let q : n < 2 ^ n = lt_two_pow n in
    ap (λ k. min (2 ^ k) c) e ∙ omega (arith, p, q))
    (cases_lt n c)
