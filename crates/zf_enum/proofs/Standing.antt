-- Where a value stands in an ascending range.
use Rattle.zf_enum.proofs.Prelude.{cases_lt, AllPairs, slice_get, exact, value_order, Value, ◌≡◌, ⊎_elim, ℕ, zero, suc, ◌<◌, List, [], ◌∷◌, length, get_or, Some, refl, sym, ap, ◌∙◌, Ok, Err, Less, arith, ordering_index, tied_itself}
use Rattle.std.specs.List.Sorted.{IsBinarySearchResult, IsNonDecreasingBy}
use Rattle.zf_value.specs.contracts.plain.ValueOrd.TheImpl.Laws.{total-law}
use Rattle.zf_value.proofs.Searched.{index_below}

abbrev Below : Value → Value → Type 0
Below v w = value_order v w ≡ Less

at_place : (xs : List Value) (i : ℕ) (z : Value) → slice_get xs i ≡ Some z → (i < length xs) × (get_or xs i z ≡ z)
at_place [] i z e = absurd (cc)
at_place (x ∷ xs) zero z e = (omega arith, (cc))
at_place (x ∷ xs) (suc i) z e = let r = at_place xs i z e in (omega (arith, r.0), r.1)

not_below : (v w : Value) → v ≡ w → Below v w → ⊥
not_below v w e h = let t = tied_itself total-law w in let s : value_order v w ≡ value_order w w = ap (λ u. value_order u w) e in (cc)

rising : (z : Value) (xs : List Value) → AllPairs Below xs → IsNonDecreasingBy (λ y. ordering_index (value_order y z)) xs
rising z xs h i j d l m =
    ⊎_elim (λ s. index_below z _ _ _ refl (h i j d s m))
    (λ g.
    let e : i ≡ j = omega (arith, l, g) in
    let k : ordering_index (value_order (get_or xs i d) z) ≡ ordering_index (value_order (get_or xs j d) z) = ap (λ u. ordering_index (value_order (get_or xs u d) z)) e in
    omega (arith, k))
    (cases_lt i j)

one_place : (xs : List Value) (i j : ℕ) (z : Value) → AllPairs Below xs → i < length xs → j < length xs → get_or xs i z ≡ z → get_or xs j z ≡ z → i ≡ j
one_place xs i j z h l m a b =
    ⊎_elim (λ s. absurd (not_below (get_or xs i z) (get_or xs j z) (a ∙ sym b) (h i j z s m)))
    (λ g. ⊎_elim (λ s. absurd (not_below (get_or xs j z) (get_or xs i z) (b ∙ sym a) (h j i z s l))) (λ k. omega (arith, g, k)) (cases_lt j i)) (cases_lt i j)

pub found_at : (z : Value) (xs : List Value) (place i : ℕ) → AllPairs Below xs → place < length xs → IsBinarySearchResult (λ y. value_order y z) xs (Ok place)
    → slice_get xs i ≡ Some z → Some place ≡ Some i
found_at z xs place i h l s at = let r = at_place xs i z at in ap Some (one_place xs place i z h l r.0 (exact _ z (s z)) r.1)

pub found_none : (z : Value) (xs : List Value) (end i : ℕ) → AllPairs Below xs → IsBinarySearchResult (λ y. value_order y z) xs (Err end) → slice_get xs i ≡ Some z → ⊥
found_none z xs end i h s at =
    let r = at_place xs i z at in
    let t = tied_itself total-law z in
    let same : value_order (get_or xs i z) z ≡ value_order z z = ap (λ u. value_order u z) r.1 in
    let apart = s (rising z xs h) in
    ⊎_elim (λ low. let x = apart.0 i z (omega arith) low in (cc)) (λ high. let x = apart.1 i z high r.0 in (cc)) (cases_lt i end)
