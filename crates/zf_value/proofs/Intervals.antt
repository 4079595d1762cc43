-- The numbers from one to another, in order.
use Rattle.zf_value.proofs.Prelude.{◌++◌, ◌<◌, ◌↔◌, ◌∙◌, ◌∷◌, ◌≡◌, [], ap, arith, false, Global, IsTrue, length, Less, List, None, Result, Some, subst, suc, sym, true, Vec, ℕ, ℤ, ⊎_elim, ints, int_cmp_is, ◌+ℤ◌, ◌<ℤ◌, ◌≤ℤ◌, pos, IfOk, AllocError, number_of, IsBetweenNumbers, IsInterval, IsDisplay, IsAscending, IsMember, value_order, ListsNumbers, SET_MAX, Int, Value, Outcome, Out}
use lib.Signed.{le_z}
use Rattle.zf_value.proofs.Among.{every_at}
use Rattle.zf_value.proofs.Counted.{first, members-first, ascending-first, length-first}
use Rattle.zf_value.proofs.Divisions.{either_way}
use Rattle.zf_value.proofs.Compared.{compared_numbers}
use Rattle.zf_value.proofs.Listed.{IsMade}
use Rattle.zf_value.proofs.Making.{made, too_many}
use Rattle.zf_value.proofs.Once.{no_longer}
use Rattle.zf_value.proofs.Seen.{is_Int, no_Int, same_number}

-- the first k numbers from a on
abbrev pub number_list : ℤ → ℕ → List Value
number_list a k = first (λ i. Int (a +ℤ pos i)) k

number_below : (m n : ℤ) → m <ℤ n → value_order (Int m) (Int n) ≡ Less
number_below m n l = compared_numbers m n ∙ sym (int_cmp_is m n Less l)

number_rises : (a : ℤ) (i j : ℕ) → i < j → value_order (Int (a +ℤ pos i)) (Int (a +ℤ pos j)) ≡ Less
number_rises a i j l = number_below (a +ℤ pos i) (a +ℤ pos j) (omega (arith, ints, l))

ascending-number_list : (a : ℤ) (k : ℕ) → IsAscending (number_list a k)
ascending-number_list a k = ascending-first (λ i. Int (a +ℤ pos i)) (number_rises a) k

length-number_list : (a : ℤ) (k : ℕ) → length (number_list a k) ≡ k
length-number_list a k = length-first (λ i. Int (a +ℤ pos i)) k

-- a number at least a is so much more
more_than : (a n : ℤ) → a ≤ℤ n → (i : ℕ) × (n ≡ a +ℤ pos i)
more_than a n l = ⊎_elim (λ p. p) (λ p. (0, omega (arith, ints, p.1))) (either_way a n)

-- the first k numbers from a on are those to b
pub numbers_between : (a b : ℤ) (k : ℕ) → (a +ℤ pos k) ≡ (b +ℤ pos 1) → (z : Value) → IsMember z (number_list a k) ↔ IsBetweenNumbers a b z
unfolding IsBetweenNumbers
numbers_between a b k e z = (
  λ m. let p = (members-first (λ i. Int (a +ℤ pos i)) k z).0 m in (a +ℤ pos p.0, p.1, omega (arith, ints), omega (arith, ints, p.2, e)),
  λ p. let q = more_than a p.0 p.2 in (members-first (λ i. Int (a +ℤ pos i)) k z).1 (q.0, p.1 ∙ ap Int q.1, omega (arith, ints, q.1, p.3, e)),
)

pub number_more : (a n : ℤ) (k : ℕ) (old new : List Value) → n ≡ a +ℤ pos k → old ≡ number_list a k → new ≡ old ++ Int n ∷ [] → new ≡ number_list a (suc k)
number_more a n k old new e o s = s ∙ ap (λ xs. xs ++ Int n ∷ []) o ∙ ap (λ m. number_list a k ++ Int m ∷ []) e

none_between : (a b : ℤ) → b <ℤ a → (z : Value) → IsMember z [] ↔ IsBetweenNumbers a b z
unfolding IsBetweenNumbers
none_between a b l z = (λ m. absurd m, λ p. absurd (omega (arith, ints, l, p.2, p.3)))

pub lists_none : (a b : ℤ) (v : Vec Value Global) → v.items ≡ [] → b <ℤ a → ListsNumbers a b v
lists_none a b v e l = record { ascending = subst IsAscending (sym e) tt; members = λ z. subst (λ xs. IsMember z xs ↔ IsBetweenNumbers a b z) (sym e) (none_between a b l z) }

-- the first k numbers, and the last
pub lists_all : (a b : ℤ) (k : ℕ) (old : List Value) (v : Vec Value Global) → b ≡ a +ℤ pos k → old ≡ number_list a k → v.items ≡ old ++ Int b ∷ [] → ListsNumbers a b v
lists_all a b k old v e o n =
    let all : v.items ≡ number_list a (suc k) = number_more a b k old v.items e o n in
    let past : (a +ℤ pos (suc k)) ≡ (b +ℤ pos 1) = omega (arith, ints, e) in
    record {
      ascending = subst IsAscending (sym all) (ascending-number_list a (suc k));
      members = λ z. subst (λ xs. IsMember z xs ↔ IsBetweenNumbers a b z)
          (sym all) (numbers_between a b (suc k) past z);
    }

pub lists_same : (a b x y : ℤ) (v : Vec Value Global) → a ≡ x → b ≡ y → ListsNumbers a b v → ListsNumbers x y v
lists_same a b x y v e f h = subst (λ n. ListsNumbers n y v) e (subst (λ n. ListsNumbers a n v) f h)

pub interval_made : (a b : ℤ) (v : Vec Value Global) (r : Result Outcome AllocError) → ListsNumbers a b v → IfOk r (IsDisplay v.items) → IsMade (IsInterval a b) r
unfolding IsInterval IsBetweenNumbers
interval_made a b v r h d =
    made (IsBetweenNumbers a b) v.items r h.members d

-- ---- out of size

out_by : (k : ℕ) (a b : ℤ) → SET_MAX < k → (a +ℤ pos k) ≡ (b +ℤ pos 1) → IsInterval a b Out
unfolding IsInterval
out_by k a b l e = too_many (IsBetweenNumbers a b) (number_list a k) (ascending-number_list a k) (omega (arith, l, length-number_list a k)) (λ z m. (numbers_between a b k e z).0 m)

pub interval_out : (a b : ℤ) → (a +ℤ pos SET_MAX) ≤ℤ b → IsInterval a b Out
interval_out a b l =
    let more = more_than a (b +ℤ pos 1) (omega (arith, ints, l)) in
    let e : (a +ℤ pos more.0) ≡ (b +ℤ pos 1) = sym more.1 in
    out_by more.0 a b (omega (arith, ints, l, e)) e

pub interval_not_out : (a b : ℤ) → IsInterval a b Out → (a +ℤ pos SET_MAX) ≤ℤ b
unfolding IsInterval
interval_not_out a b h =
    ⊎_elim (λ p.
    let e : (a +ℤ pos p.0) ≡ (b +ℤ pos 1) = sym p.1 in
    let q = no_longer (number_list a p.0) h.0 (ascending-number_list a p.0) h.1 (λ z m. (numbers_between a b p.0 e z).1 (every_at (IsBetweenNumbers a b) h.0 z h.3 m)) in
    omega (arith, ints, e, q, h.2, length-number_list a p.0)) (λ p.
    let l : b <ℤ a = omega (arith, ints, p.1) in
    let q = no_longer [] h.0 tt h.1 (λ z m. (none_between a b l z).1 (every_at (IsBetweenNumbers a b) h.0 z h.3 m)) in
    absurd (omega (arith, q, h.2))) (either_way a (b +ℤ pos 1))

-- ---- one number

pub between_last : (a b n x y m : ℤ) (z : Value) → x ≡ a → y ≡ b → m ≡ n → Some n ≡ number_of z → le_z x m ≡ true → IsTrue (le_z m y) ↔ IsBetweenNumbers a b z
unfolding IsBetweenNumbers
between_last a b n x y m z e f g h l =
    let is = is_Int z n h in (
      λ t. (n, is, grind (arith, ints, e, f, g, l, t), grind (arith, ints, e, f, g, l, t)),
      λ p. let k = same_number n p.0 (sym is ∙ p.1) in grind (arith, ints, e, f, g, k, p.3),
    )

pub between_first : (a b n x m : ℤ) (z : Value) → x ≡ a → m ≡ n → Some n ≡ number_of z → le_z x m ≡ false → IsTrue (le_z x m) ↔ IsBetweenNumbers a b z
unfolding IsBetweenNumbers
between_first a b n x m z e g h l =
    (λ t. (cc), λ p. let k = same_number n p.0 (sym (is_Int z n h) ∙ p.1) in grind (arith, ints, e, g, k, p.2))

pub between_none : (a b : ℤ) (z : Value) → None ≡ number_of z → IsTrue false ↔ IsBetweenNumbers a b z
unfolding IsBetweenNumbers
between_none a b z h = (λ t. (cc), λ p. absurd (no_Int z p.0 h p.1))
