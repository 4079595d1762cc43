-- The elements of a type, in order.
use Rattle.zf_value.proofs.Prelude.{◌++◌, ◌+◌, ◌<◌, ◌↔◌, ◌∙◌, ◌∷◌, ◌≡◌, [], add-one, ap, arith, eqb, false, IsTrue, Less, List, ltb, Result, subst, sym, ℕ, eqb-true, lt-ltb, ltb-true, nat_cmp_is, nat_cmp, IfOk, AllocError, AreElements, IsDisplay, IsElement, IsAscending, IsMember, value_order, SET_MAX, Elem, Value, Outcome, Out}
use Rattle.zf_value.proofs.Counted.{first, members-first, ascending-first, length-first}
use Rattle.zf_value.proofs.Compared.{compared_places}
use Rattle.zf_value.proofs.Listed.{IsMade}
use Rattle.zf_value.proofs.Making.{made, too_many}
use Rattle.zf_value.proofs.Seen.{same_element}

-- the first k elements of the type
abbrev pub element_list : ℕ → ℕ → List Value
element_list n k = first (Elem n) k

nat_below : (i j : ℕ) → i < j → nat_cmp i j ≡ Less
nat_below i j l = sym (nat_cmp_is i j Less l)

element_below : (n i j : ℕ) → i < j → value_order (Elem n i) (Elem n j) ≡ Less
element_below n i j l = compared_places n i j ∙ nat_below i j l

members-element_list : (n k : ℕ) (z : Value) → IsMember z (element_list n k) ↔ IsElement n k z
unfolding IsElement
members-element_list n k z = members-first (Elem n) k z

ascending-element_list : (n k : ℕ) → IsAscending (element_list n k)
ascending-element_list n k = ascending-first (Elem n) (element_below n) k

pub element_more : (n k : ℕ) (old new : List Value) → old ≡ element_list n k → new ≡ old ++ Elem n k ∷ [] → new ≡ element_list n (k + 1)
element_more n k old new e s = rw add-one (s ∙ ap (λ xs. xs ++ Elem n k ∷ []) e)

pub ascending_elements : (n k : ℕ) (xs : List Value) → xs ≡ element_list n k → IsAscending xs
ascending_elements n k xs e = subst IsAscending (sym e) (ascending-element_list n k)

pub elements_made : (n k i : ℕ) (xs : List Value) (r : Result Outcome AllocError) → xs ≡ element_list n i → i ≡ k → IfOk r (IsDisplay xs) → IsMade (AreElements n k) r
unfolding AreElements IsElement
elements_made n k i xs r e s d =
    let same : xs ≡ element_list n k = e ∙ ap (element_list n) s in
    made (IsElement n k) xs r (λ z. subst (λ ys. IsMember z ys ↔ IsElement n k z) (sym same) (members-element_list n k z)) d

pub elements_out : (n k : ℕ) → SET_MAX < k → AreElements n k Out
unfolding AreElements
elements_out n k l = too_many (IsElement n k) (element_list n k) (ascending-element_list n k) (omega (arith, l, length-first (Elem n) k)) (λ z m. (members-element_list n k z).0 m)

-- ---- one element

pub element_test : (n k t i : ℕ) (z : Value) → z ≡ Elem t i → t ≡ n → IsTrue (ltb i k) ↔ IsElement n k z
unfolding IsElement
element_test n k t i z e s =
    (λ b. (i, e ∙ ap (λ u. Elem u i) s, ltb-true i k b), λ p. let same = same_element t i n p.0 (sym e ∙ p.1) in lt-ltb i k (omega (arith, same.1, p.2)))

pub other_type : (n k t i : ℕ) (z : Value) → z ≡ Elem t i → (t ≡ n → ⊥) → IsTrue (eqb t n) ↔ IsElement n k z
unfolding IsElement
other_type n k t i z e s = (λ b. absurd (s (eqb-true t n b)), λ p. absurd (s (same_element t i n p.0 (sym e ∙ p.1)).0))

pub no_element : (n k : ℕ) (z : Value) → ((t i : ℕ) → z ≡ Elem t i → ⊥) → IsTrue false ↔ IsElement n k z
unfolding IsElement
no_element n k z f = (λ b. (cc), λ p. absurd (f n p.0 p.1))
