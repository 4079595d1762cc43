-- Where a binary search in an ascending list ends.
use Rattle.zf_value.proofs.Prelude.{◌<◌, ◌↔◌, ◌≡◌, ◌≤◌, ◌⊎◌, ap, arith, Equal, Err, get_or, Greater, IsTrue, length, Less, List, Ok, Ordering, refl, Result, subst, ℕ, ⊎_elim, cases_lt, tied_itself, IsBinarySearchResult, IsNonDecreasingBy, IsSearchInRange, ordering_index, is_ok, IsAscending, IsMember, value_order, Value, total-law}
use Rattle.zf_value.proofs.Exact.{exact}
use Rattle.zf_value.proofs.Among.{below_at, contained, member}

-- ---- a value among others

pub index_below : (z a b : Value) (o : Ordering) → value_order b z ≡ o → value_order a b ≡ Less → ordering_index (value_order a z) ≤ ordering_index o
index_below z a b Less e l = let k = total-law.trans a b z l e in rw k (omega arith)
index_below z a b Equal e l = let k : value_order a z ≡ Less = subst (λ u. value_order a u ≡ Less) (exact b z e) l in rw k (omega arith)
index_below z a b Greater e l = at (value_order a z)
  where
    at : (o : Ordering) → ordering_index o ≤ 2
    at Less = omega arith
    at Equal = omega arith
    at Greater = omega arith

-- what rises with the order of values rises along an ascending list
pub rising : (n : Value → ℕ) (xs : List Value) → IsAscending xs → ((a b : Value) → value_order a b ≡ Less → n a ≤ n b) → IsNonDecreasingBy n xs
rising n xs h f i j d l m =
    ⊎_elim (λ s. f _ _ (below_at xs i j d h s m))
    (λ g.
    let e : i ≡ j = omega (arith, l, g) in
    let k : n (get_or xs i d) ≡ n (get_or xs j d) = ap (λ u. n (get_or xs u d)) e in
    omega (arith, k))
    (cases_lt i j)

pub found : (z : Value) (xs : List Value) (r : Result ℕ ℕ) → IsAscending xs → IsSearchInRange r (length xs) → IsBinarySearchResult (λ y. value_order y z) xs r → IsTrue (is_ok r) ↔ IsMember z xs
found z xs (Ok i) h l s = (λ b. member xs z (i, l, exact _ z (s z)), λ m. refl)
found z xs (Err i) h l s =
    let apart = s (rising (λ y. ordering_index (value_order y z)) xs h (λ a b k. index_below z a b _ refl k)) in
    (λ b. (cc), λ m. let c = contained xs z m in absurd (neither c.0 c.2 (apart.0 c.0 z) (apart.1 c.0 z) (cases_lt c.0 i) c.1))
  where
    neither : (k : ℕ) → get_or xs k z ≡ z → (0 ≤ k → k < i → value_order (get_or xs k z) z ≡ Less)
        → (i ≤ k → k < length xs → value_order (get_or xs k z) z ≡ Greater) → (k < i) ⊎ (i ≤ k) → k < length xs → ⊥
    neither k e low high b q =
        let t = tied_itself total-law z in
        let same : value_order (get_or xs k z) z ≡ value_order z z = ap (λ u. value_order u z) e in
        ⊎_elim (λ a. let x = low (omega arith) a in (cc)) (λ a. let x = high a q in (cc)) b
