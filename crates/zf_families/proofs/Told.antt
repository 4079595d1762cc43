-- A test that a list of rows answers makes the set of these rows, or is out where they are too many.
use Rattle.zf_families.proofs.Prelude.{◌+◌, ◌↔◌, ◌∙◌, ◌∷◌, ◌≡◌, ◌≤◌, ◌⊎◌, [], ap, arith, Bool, inl, inr, length, Less, List, ltb, map, min, refl, Result, subst, suc, sym, take, zero, ℕ, ⊎_elim, cases_lt, lt-ltb, ltb-true, length-map, length-take-le, IfOk-weaker, IsTrue, IfOk, AllocError, cmp_is, members-SetOf, IsAscending, IsMember, IsSetOf, members, row_order, value_order, SET_MAX, out-Value, SetOf, Tuple, Value, Value-F, outs-SetOf, outs-Tuple, Outcome, Is, Out, AllAscend, AreSets, AllByRecursion, level_order}
use Rattle.zf_value.proofs.Once.{one_set}
use Rattle.zf_families.proofs.Lists.{Each, In, IsOrdered, ordered_map, ordered_take, in_map, in_from_map}
use Rattle.zf_families.proofs.InOrder.{Below}

pub set_order : (r s : List Value) → value_order (SetOf r) (SetOf s) ≡ row_order r s
set_order r s = cmp_is (SetOf r) (SetOf s) ∙ ap (λ u. level_order value_order u (out-Value (SetOf s))) (outs-SetOf r) ∙ ap (λ u. level_order value_order (Value-F.SetOf r) u) (outs-SetOf s)

pub tuple_order : (r s : List Value) → value_order (Tuple r) (Tuple s) ≡ row_order r s
tuple_order r s = cmp_is (Tuple r) (Tuple s) ∙ ap (λ u. level_order value_order u (out-Value (Tuple s))) (outs-Tuple r) ∙ ap (λ u. level_order value_order (Value-F.Tuple r) u) (outs-Tuple s)

-- the two recursions say the same
pub member_in : (z : Value) (xs : List Value) → IsMember z xs → In z xs
member_in z [] m = absurd m
member_in z (x ∷ xs) m = ⊎_elim (λ s. inl s) (λ n. inr (member_in z xs n)) m

pub in_member : (z : Value) (xs : List Value) → In z xs → IsMember z xs
in_member z [] m = absurd m
in_member z (x ∷ xs) m = ⊎_elim (λ s. inl s) (λ n. inr (in_member z xs n)) m

each_every : (P : Value → Type 0) (xs : List Value) → Each P xs → AllByRecursion P xs
each_every P [] h = tt
each_every P (x ∷ xs) h = (h.0, each_every P xs h.1)

ascending_from : (xs : List Value) → IsOrdered (λ x y. value_order x y ≡ Less) xs → IsAscending xs
ascending_from [] h = tt
ascending_from (x ∷ xs) h = (each_every (λ y. value_order x y ≡ Less) xs h.0, ascending_from xs h.1)

-- of rows in strict order a value is made of each, and the values are exactly those of which P holds
pub record Tells (make : List Value → Value) (P : Value → Type 0) (rows : List (List Value)) : Type 0 where
  pub kept : (r s : List Value) → value_order (make r) (make s) ≡ row_order r s
  pub ordered : IsOrdered Below rows
  pub passes : (r : List Value) → In r rows → P (make r)
  pub found : (z : Value) → P z → (r : List Value) × (make r ≡ z) × In r rows

pub made_ascending : (make : List Value → Value) → ((r s : List Value) → value_order (make r) (make s) ≡ row_order r s) → (rows : List (List Value))
    → IsOrdered Below rows → IsAscending (map make rows)
made_ascending make k rows h = ascending_from (map make rows) (ordered_map Below (λ x y. value_order x y ≡ Less) make rows (λ r s l. k r s ∙ l) h)

pub told : (make : List Value → Value) (P : Value → Type 0) (rows : List (List Value)) → Tells make P rows → length rows ≤ SET_MAX → IsSetOf P (Is (SetOf (map make rows)))
told make P rows t h = (
  map make rows,
  refl,
  made_ascending make t.kept rows t.ordered,
  (let e : length (map make rows) ≡ length rows = length-map rows make in omega (arith, e, h)),
  λ z. (
    λ m. let q = in_from_map make rows z (member_in z (map make rows) m) in subst P q.1 (t.passes q.0 q.2),
    λ p. let q = t.found z p in in_member z (map make rows) (subst (λ u. In u (map make rows)) q.1 (in_map make rows q.0 q.2)),
  ),
)

all_pass : (make : List Value → Value) (P : Value → Type 0) (rows : List (List Value)) → ((r : List Value) → In r rows → P (make r)) → AllByRecursion P (map make rows)
all_pass make P [] h = tt
all_pass make P (r ∷ rows) h = (h r (inl refl), all_pass make P rows (λ s m. h s (inr m)))

in_taken : (n : ℕ) (rows : List (List Value)) (r : List Value) → In r (take n rows) → In r rows
in_taken zero rows r m = absurd m
in_taken (suc n) [] r m = absurd m
in_taken (suc n) (s ∷ rows) r m = ⊎_elim (λ e. inl e) (λ k. inr (in_taken n rows r k)) m

many : (make : List Value → Value) (P : Value → Type 0) (rows : List (List Value)) (n : ℕ) → Tells make P rows → n ≤ length rows
    → (xs : List Value) × IsAscending xs × (length xs ≡ n) × AllByRecursion P xs
many make P rows n t h = (
  map make (take n rows),
  made_ascending make t.kept (take n rows) (ordered_take Below n rows t.ordered),
  length-map (take n rows) make ∙ length-take-le n rows h,
  all_pass make P (take n rows) (λ r m. t.passes r (in_taken n rows r m)),
)

pub told_out : (make : List Value → Value) (P : Value → Type 0) (rows : List (List Value)) → Tells make P rows → SET_MAX + 1 ≤ length rows → IsSetOf P Out
told_out make P rows t h = many make P rows (SET_MAX + 1) t h

-- where the rows are not too many, it is not out
pub told_in : (make : List Value → Value) (P : Value → Type 0) (rows : List (List Value)) → Tells make P rows → length rows ≤ SET_MAX → IsSetOf P Out → ⊥
told_in make P rows t h o = let e = one_set P (Is (SetOf (map make rows))) Out (told make P rows t h) o in (cc)

-- ---- a size that is counted, and a set that is built

-- b tells whether it is out, and where it is not there is a value
abbrev pub TellsOut : (Outcome → Type 0) → Bool → Type 0
TellsOut S b = (IsTrue b ↔ S Out) × (IsTrue b ⊎ ((v : Value) × S (Is v)))

pub out_by_size : (make : List Value → Value) (P : Value → Type 0) (rows : List (List Value)) → Tells make P rows → (n count : ℕ) → length rows ≡ n
    → count ≡ min n (SET_MAX + 1) → TellsOut (IsSetOf P) (ltb SET_MAX count)
out_by_size make P rows t n count e h = (
  (
    λ g. let l = ltb-true SET_MAX count g in told_out make P rows t (omega (arith, e, h, l)),
    λ o. lt-ltb SET_MAX count (⊎_elim (λ l. omega (arith, e, h, l)) (λ l. absurd (told_in make P rows t l o)) (cases_lt SET_MAX (length rows))),
  ),
  ⊎_elim (λ l. inl (lt-ltb SET_MAX count (omega (arith, e, h, l)))) (λ l. inr (SetOf (map make rows), told make P rows t l)) (cases_lt SET_MAX (length rows)),
)

built : (make : List Value → Value) (P : Value → Type 0) (rows : List (List Value)) → Tells make P rows → (IsSetOf P Out → ⊥) → IsSetOf P (Is (SetOf (map make rows)))
built make P rows t few = ⊎_elim (λ l. absurd (few (told_out make P rows t (omega (arith, l))))) (λ l. told make P rows t l) (cases_lt SET_MAX (length rows))

pub built_result : (make : List Value → Value) (P : Value → Type 0) (rows these : List (List Value)) → Tells make P rows → (IsSetOf P Out → ⊥) → these ≡ rows
    → (r : Result Outcome AllocError) → IfOk r (λ o. o ≡ Is (SetOf (map make these))) → IfOk r (IsSetOf P)
built_result make P rows these t few e r h = IfOk-weaker r (λ o. o ≡ Is (SetOf (map make these))) (IsSetOf P)
    (λ o q. subst (IsSetOf P) (ap (λ rs. Is (SetOf (map make rs))) (sym e) ∙ sym q) (built make P rows t few)) h

-- ---- rows of which sets are made

pub ascends : (r xs : List Value) → SetOf r ≡ SetOf xs → IsAscending xs → IsAscending r
ascends r xs e h = subst IsAscending (sym (members-SetOf xs) ∙ sym (ap members e) ∙ members-SetOf r) h

all_ascend : (rows : List (List Value)) → ((r : List Value) → In r rows → IsAscending r) → AllAscend rows
all_ascend [] h = tt
all_ascend (r ∷ rows) h = (h r (inl refl), all_ascend rows (λ s m. h s (inr m)))

-- where only ascending lists make sets of which P holds
pub are_sets : (P : Value → Type 0) (rows these : List (List Value)) → Tells SetOf P rows → ((r : List Value) → P (SetOf r) → IsAscending r) → these ≡ rows → AreSets these
are_sets P rows these t h e = subst AreSets (sym e) (all_ascend rows (λ r m. h r (t.passes r m)), made_ascending SetOf t.kept rows t.ordered)
