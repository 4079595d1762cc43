-- The one way in which sets are made: from an ascending list of the values that pass.
use Rattle.zf_value.proofs.Prelude.{◌*◌, ◌+◌, ◌<◌, ◌↔◌, ◌∙◌, ◌≡◌, ◌≤◌, [], ap, arith, Bool, false, length, length-take, List, ltb, refl, subst, sym, take, true, ℕ, ltb-false, ltb-true, Contains-permutation, IsPermutation-sym, dedup, IsPermutation, IsSorted, IfOk, AllocError, IsDisplay, IsAscending, IsMember, IsSetOf, value_order, HaveSameMembers, IsGathered, SET_MAX, SetOf, Value, Outcome, Is, Out, Undefined, IfOk-weaker, Result}
use Rattle.std.specs.Bool.{MatchBool}
use Rattle.std.specs.List.Retain.{IsFiltered, DiffersFromLast}
use Rattle.std.proofs.lemmas.List.Filters.{dedup_is}
use Rattle.std.proofs.lemmas.List.Kept.{Contains-dedup, Contains-from_dedup, IsStrictlySortedBy-dedup}
use Rattle.zf_value.specs.contracts.plain.ValuePartialEq.TheImpl as equality
use Rattle.zf_value.specs.contracts.plain.ValueEq.TheImpl.Laws as equal_laws
use Rattle.zf_value.specs.contracts.plain.ValueOrd.TheImpl.Laws as order_laws
use Rattle.zf_value.proofs.Exact.{exact, is_eq_true}
use Rattle.zf_value.proofs.Among.{every_from, every_also, every-take, ascending, ascending-take, contained, member}

-- one test is as good as another that the same values pass
pub same_set : (P Q : Value → Type 0) (o : Outcome) → ((z : Value) → P z ↔ Q z) → IsSetOf P o → IsSetOf Q o
same_set P Q (Is v) f h = (h.0, h.1, h.2, h.3, λ z. (λ m. (f z).0 ((h.4 z).0 m), λ q. (h.4 z).1 ((f z).1 q)))
same_set P Q Undefined f h = h
same_set P Q Out f h = (h.0, h.1, h.2, every_also P Q h.0 (λ z p. (f z).0 p) h.3)

-- a list of exactly the values that pass, made a set
pub made : (P : Value → Type 0) (xs : List Value) (r : Result Outcome AllocError) → ((z : Value) → IsMember z xs ↔ P z) → IfOk r (IsDisplay xs) → IfOk r (IsSetOf P)
unfolding IsDisplay
made P xs r f h = IfOk-weaker r _ _ (λ o q. same_set _ P o f q) h

-- the first of a longer list, without computing on the number
first_members : (n : ℕ) (xs : List Value) → n + 1 ≤ length xs → length (take (n + 1) xs) ≡ n + 1
first_members n xs l = omega (arith, length-take (n + 1) xs, l)

-- more than SET_MAX values that pass
pub too_many : (P : Value → Type 0) (xs : List Value) → IsAscending xs → SET_MAX < length xs → ((z : Value) → IsMember z xs → P z) → IsSetOf P Out
too_many P xs h l f =
    let room : SET_MAX + 1 ≤ length xs = omega (arith, l) in
    (take (SET_MAX + 1) xs, ascending-take (SET_MAX + 1) xs h, first_members SET_MAX xs room, every-take P (SET_MAX + 1) xs (every_from P xs f))

equal_is : (x y : Value) → equality.ghosts.eq x y ≡ true → x ≡ y
equal_is x y e = exact x y (is_eq_true (value_order x y) (sym (order_laws.matches_eq-law x y) ∙ e))

-- a list that was sorted, and its repeats dropped
pub sorted_out : (xs sorted ys : List Value) → IsPermutation xs sorted → IsSorted value_order sorted
    → IsFiltered (DiffersFromLast equality.ghosts.eq) [] sorted ys → IsAscending ys × HaveSameMembers xs ys
unfolding HaveSameMembers
sorted_out xs sorted ys moved order kept =
    let is : ys ≡ dedup equality.ghosts.eq sorted = dedup_is _ _ _ kept in (
      subst IsAscending (sym is) (ascending _ (IsStrictlySortedBy-dedup order_laws.total-law order_laws.matches_eq-law sorted order)),
      λ z. (
        λ m. subst (IsMember z) (sym is) (member _ z (Contains-dedup equal_laws.laws-law equal_is sorted z (Contains-permutation _ _ z moved (contained _ z m)))),
        λ m. member _ z (Contains-permutation _ _ z (IsPermutation-sym _ _ moved) (Contains-from_dedup _ _ z (contained _ z (subst (IsMember z) is m)))),
      ),
    )

-- an ascending list, made a set
pub made_here : (items xs : List Value) → items ≡ xs → IsAscending xs → length xs ≤ SET_MAX → IsDisplay xs (Is (SetOf items))
unfolding IsDisplay
made_here items xs e h l = (xs, ap SetOf e, h, l, λ z. (λ m. m, λ m. m))

displayed_out : (xs : List Value) → IsAscending xs → SET_MAX < length xs → IsDisplay xs Out
unfolding IsDisplay
displayed_out xs h l = too_many (λ z. IsMember z xs) xs h l (λ z m. m)

no_more_than_twice : (m n : ℕ) → m ≤ n → m ≤ 2 * n
no_more_than_twice m n h = omega (arith, h)

-- out where the list is longer than a set may be
pub out_or_few : (xs : List Value) (n : ℕ) → n ≡ length xs → IsAscending xs → MatchBool (ltb SET_MAX n) (IsDisplay xs Out) (length xs ≤ 2 * SET_MAX)
out_or_few xs n e h = at (ltb SET_MAX n) refl
  where
    at : (b : Bool) → ltb SET_MAX n ≡ b → MatchBool b (IsDisplay xs Out) (length xs ≤ 2 * SET_MAX)
    at true f = let l = ltb-true SET_MAX n f in displayed_out xs h (omega (arith, l, e))
    at false f = let l = ltb-false SET_MAX n f in no_more_than_twice (length xs) SET_MAX (omega (arith, l, e))

pub out_told : (xs : List Value) (b : Bool) → b ≡ true → MatchBool b (IsDisplay xs Out) (length xs ≤ 2 * SET_MAX) → IsDisplay xs Out
out_told xs true e h = h
out_told xs false e h = (cc)

pub same_list : (xs : List Value) → HaveSameMembers xs xs
unfolding HaveSameMembers
same_list xs z = (λ m. m, λ m. m)

-- a set made of a list is made of another with the same members
pub made_same : (xs ys : List Value) (r : Result Outcome AllocError) → HaveSameMembers xs ys → IfOk r (IsDisplay ys) → IfOk r (IsDisplay xs)
unfolding IsDisplay HaveSameMembers
made_same xs ys r s h = IfOk-weaker r _ _ (λ o q. same_set _ (λ z. IsMember z xs) o (λ z. (λ m. (s z).1 m, λ m. (s z).0 m)) q) h

-- a set made of what was gathered
pub made_gathered : (G : Value → Value → Type 0) (P : Value → Type 0) (xs out : List Value) (r : Result Outcome AllocError) → IsGathered G xs out
    → ((w : Value) → ((z : Value) × IsMember z xs × G z w) ↔ P w) → IfOk r (IsDisplay out) → IfOk r (IsSetOf P)
unfolding IsGathered
made_gathered G P xs out r g f h = made P out r (λ w. (λ m. (f w).0 ((g w).0 m), λ p. (g w).1 ((f w).1 p))) h
