-- The order of values, and lists that ascend in it.
use Rattle.zf_families.proofs.Prelude.{tied_itself, is_eq, ordering_reverse, ordering_then, every_at, every_from, ties, parts-Tuple, pair, IsAscending, IsMember, parts, row_order, value_order, Value, AllByRecursion, ◌≡◌, ◌↔◌, Bool, true, false, IsTrue, ap₂, List, [], ◌∷◌, map, refl, sym, ap, ◌∙◌, inl, inr, ⊎_elim, Less, total-law}
use Rattle.zf_families.proofs.Told.{tuple_order}

pub every_map : (P : Value → Type 0) (f : Value → Value) (xs : List Value) → AllByRecursion (λ x. P (f x)) xs → AllByRecursion P (map f xs)
every_map P f [] h = tt
every_map P f (x ∷ xs) h = (h.0, every_map P f xs h.1)

pub member_map : (f : Value → Value) (xs : List Value) (x : Value) → IsMember x xs → IsMember (f x) (map f xs)
member_map f [] x m = absurd m
member_map f (y ∷ xs) x m = ⊎_elim (λ s. inl (ap f s)) (λ n. inr (member_map f xs x n)) m

pub from_member_map : (f : Value → Value) (xs : List Value) (z : Value) → IsMember z (map f xs) → (x : Value) × (f x ≡ z) × IsMember x xs
from_member_map f [] z m = absurd m
from_member_map f (y ∷ xs) z m = ⊎_elim (λ s. (y, s, inl refl)) (λ n. let q = from_member_map f xs z n in (q.0, q.1, inr q.2)) m

pub not_both : (x y : Value) → value_order x y ≡ Less → value_order y x ≡ Less → ⊥
not_both x y e f = let r = total-law.antisymm x y ∙ ap ordering_reverse f in (cc)

same-test : (b d : Bool) (P : Type 0) → (IsTrue b ↔ P) → (IsTrue d ↔ P) → b ≡ d
same-test true true P h k = refl
same-test true false P h k = sym (k.1 (h.0 refl))
same-test false true P h k = h.1 (k.0 refl)
same-test false false P h k = refl

-- a test whether two values are one, as the order tells it
pub tied : (b : Bool) (v w x y : Value) → v ≡ x → w ≡ y → (IsTrue b ↔ (v ≡ w)) → b ≡ is_eq (value_order x y)
tied b v w x y e f h = same-test b (is_eq (value_order v w)) (v ≡ w) h (ties v w) ∙ ap₂ (λ (a c : Value). is_eq (value_order a c)) e f

-- of an ascending list the first is below each other member, and so is none of them
pub below_rest : (x : Value) (xs : List Value) (z : Value) → IsAscending (x ∷ xs) → IsMember z xs → value_order x z ≡ Less
below_rest x xs z h m = every_at (λ y. value_order x y ≡ Less) xs z h.0 m

-- ---- pairs

pub pair_parts : (x y u v : Value) → pair x y ≡ pair u v → (x ≡ u) × (y ≡ v)
pair_parts x y u v e =
    let same : x ∷ y ∷ [] ≡ u ∷ v ∷ [] = sym (parts-Tuple (x ∷ y ∷ [])) ∙ ap parts e ∙ parts-Tuple (u ∷ v ∷ []) in
    ((cc), (cc))

pub first_below : (x y u v : Value) → value_order x u ≡ Less → value_order (pair x y) (pair u v) ≡ Less
first_below x y u v h = tuple_order (x ∷ y ∷ []) (u ∷ v ∷ []) ∙ ap (λ o. ordering_then o (row_order (y ∷ []) (v ∷ []))) h

pub second_below : (x y v : Value) → value_order y v ≡ Less → value_order (pair x y) (pair x v) ≡ Less
second_below x y v h =
    tuple_order (x ∷ y ∷ []) (x ∷ v ∷ []) ∙ ap (λ o. ordering_then o (row_order (y ∷ []) (v ∷ []))) (tied_itself total-law x)
    ∙ ap (λ o. ordering_then o (row_order [] [])) h

pub pairs_ascending : (x : Value) (b : List Value) → IsAscending b → IsAscending (map (pair x) b)
pairs_ascending x [] h = tt
pairs_ascending x (y ∷ b) h = (
  every_map (λ z. value_order (pair x y) z ≡ Less) (pair x) b (every_from (λ v. value_order (pair x y) (pair x v) ≡ Less) b (λ v m. second_below x y v (below_rest y b v h m))),
  pairs_ascending x b h.1,
)
