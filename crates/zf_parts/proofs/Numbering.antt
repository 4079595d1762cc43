-- Numbers of values that stand in ranges: they ascend as the values do.
use Rattle.zf_parts.proofs.Prelude.{◌+◌, ◌<◌, ◌∙◌, ◌∷◌, ◌≡◌, [], ap, arith, inl, inr, length, List, refl, Some, subst, suc, sym, zero, ℕ, All, slice_cmp, Equal, Less, ComesAfter, value_order, Value, values_at, AllPairs, ◌*◌, ◌≤◌, drop, get_or, mul-le-mul_left, mul-le-mul_right, cases_eq, cases_lt, tied_itself, All-cons, All-head, All-nil, All-tail, get_or_from_slice_get, slice_get_within, cons_option, ordering_then, slice_get, IsNth, less-at, nth, slice_get-nth, AreAscending, AreWithin, IsRowOf, IsNumber, ranges_at, total, weights}
use Rattle.zf_value.specs.contracts.plain.ValueOrd.TheImpl.Laws as order_laws
use Rattle.zf_walk.proofs.Numbering.{one_digit}
use Rattle.zf_parts.proofs.Orders.{never_itself}

some_one : {X : Type 0} (x y : X) → Some x ≡ Some y → x ≡ y
some_one x y e = cc

pub at_nth : {X : Type 0} (xs : List X) (i : ℕ) (x : X) → slice_get xs i ≡ Some x → IsNth xs i x
at_nth xs i x at = record { within = slice_get_within xs i x at; is = get_or_from_slice_get xs i x x at }

-- there are fewer numbers than rows
pub number_below : (ranges : List (List Value)) (values : List Value) (n : ℕ) → IsNumber ranges values n → n < total ranges
number_below [] [] n h = omega (arith, h)
number_below [] (v ∷ values) n h = absurd h
number_below (r ∷ ranges) [] n h = absurd h
number_below (r ∷ ranges) (v ∷ values) n (d, rest, at, more, is) =
    let near : d < length r = slice_get_within r d v at in
    omega (arith, is, number_below ranges values rest more, mul-le-mul_right {m = d + 1} {n = length r} (total ranges) (omega (arith, near)))

-- a number is that of one row
pub one_row : (ranges : List (List Value)) (values others : List Value) (n : ℕ) → IsNumber ranges values n → IsNumber ranges others n → values ≡ others
one_row [] [] [] n h k = refl
one_row [] [] (u ∷ others) n h k = absurd k
one_row [] (v ∷ values) others n h k = absurd h
one_row (r ∷ ranges) [] others n h k = absurd h
one_row (r ∷ ranges) (v ∷ values) [] n h k = absurd k
one_row (r ∷ ranges) (v ∷ values) (u ∷ others) n (d, a, at, more, is) (e, b, there, same, are) =
    let here : (d ≡ e) × (a ≡ b) = one_digit d e (total ranges) a b (number_below ranges values a more) (number_below ranges others b same) (sym is ∙ are) in
    let first : v ≡ u = some_one v u (sym at ∙ ap (slice_get r) here.0 ∙ there) in
    ap (λ x. x ∷ values) first ∙ ap (λ xs. u ∷ xs) (one_row ranges values others a more (subst (IsNumber ranges others) (sym here.1) same))

-- the greater row has the greater number
pub in_order : (ranges : List (List Value)) (values others : List Value) (n m : ℕ) → AreAscending value_order ranges → IsNumber ranges values n → IsNumber ranges others m → n < m
    → ComesAfter value_order values others
in_order [] [] [] n m o h k l = absurd (omega (arith, h, k, l))
in_order [] [] (u ∷ others) n m o h k l = absurd k
in_order [] (v ∷ values) others n m o h k l = absurd h
in_order (r ∷ ranges) [] others n m o h k l = absurd h
in_order (r ∷ ranges) (v ∷ values) [] n m o h k l = absurd k
in_order (r ∷ ranges) (v ∷ values) (u ∷ others) n m o (d, a, at, more, is) (e, b, there, same, are) l = elim (cases_lt d e) [
  | inl less ↦
      let c : value_order v u ≡ Less = less-at value_order order_laws.total-law r d e v u (All-head (λ x. AllPairs (λ y z. value_order y z ≡ Less) x) r ranges o) (at_nth r d v at) (at_nth r e u there) less in
      subst (λ q. ordering_then q (slice_cmp value_order values others) ≡ Less) (sym c) refl
  | inr no_less ↦
      let high : a < total ranges = number_below ranges values a more in
      let low : b < total ranges = number_below ranges others b same in
      let equal : d ≡ e = elim (cases_eq d e) [
        | inl is_same ↦ is_same
        | inr other ↦ absurd (omega (arith, l, is, are, low, mul-le-mul_right {m = e + 1} {n = d} (total ranges) (omega (arith, no_less, other))))
      ] in
      let first : v ≡ u = some_one v u (sym at ∙ ap (slice_get r) equal ∙ there) in
      let tied : value_order v u ≡ Equal = subst (λ x. value_order v x ≡ Equal) first (tied_itself order_laws.total-law v) in
      let less : a < b = let z : d * total ranges ≡ e * total ranges = ap (λ k. k * total ranges) equal in omega (arith, l, is, are, z) in
      subst (λ q. ordering_then q (slice_cmp value_order values others) ≡ Less) (sym tied) (in_order ranges values others a b (All-tail (λ x. AllPairs (λ y z. value_order y z ≡ Less) x) r ranges o) more same less)
]

-- and one row has one number
pub one_number : (ranges : List (List Value)) (values : List Value) (n m : ℕ) → AreAscending value_order ranges → IsNumber ranges values n → IsNumber ranges values m → n ≡ m
one_number ranges values n m o h k = elim (cases_eq n m) [
  | inl same ↦ same
  | inr other ↦ absurd (elim (cases_lt n m) [
    | inl less ↦ never_itself values (in_order ranges values values n m o h k less)
    | inr no_less ↦ never_itself values (in_order ranges values values m n o k h (omega (arith, no_less, other)))
  ])
]

-- ---- the values of a row at some places

pub ascending_all : (ranges : List (List Value)) (places : List ℕ) → AreAscending value_order ranges → All (λ p. p < length ranges) places → AreAscending value_order (ranges_at ranges places)
ascending_all ranges [] o below = All-nil (λ r. AllPairs (λ v w. value_order v w ≡ Less) r)
ascending_all ranges (p ∷ places) o below =
    let near : p < length ranges = All-head (λ q. q < length ranges) p places below in
    All-cons (λ r. AllPairs (λ v w. value_order v w ≡ Less) r) (get_or ranges p []) (ranges_at ranges places) (o p [] near)
    (ascending_all ranges places o (All-tail (λ q. q < length ranges) p places below))

-- a value of a row stands in its range
value_there : (ranges : List (List Value)) (row : List Value) (p : ℕ) → IsRowOf ranges row → p < length ranges
    → (v : Value) × (d : ℕ) × (slice_get row p ≡ Some v) × (slice_get (get_or ranges p []) d ≡ Some v)
value_there [] row p are near = absurd (omega (arith, near))
value_there (r ∷ ranges) [] p are near = absurd are
value_there (r ∷ ranges) (v ∷ row) zero are near = let (k, at) = nth r v are.0 in (v, k, refl, slice_get-nth r k v at)
value_there (r ∷ ranges) (v ∷ row) (suc p) are near = value_there ranges row p are.1 (omega (arith, near))

-- one digit more, in front
pub one_more : (ranges : List (List Value)) (row : List Value) (p : ℕ) (places : List ℕ) (v : Value) (d rest : ℕ) → slice_get row p ≡ Some v → slice_get (get_or ranges p []) d ≡ Some v
    → IsNumber (ranges_at ranges places) (values_at places row) rest
    → IsNumber (ranges_at ranges (p ∷ places)) (values_at (p ∷ places) row) (d * total (ranges_at ranges places) + rest)
one_more ranges row p places v d rest at there h =
    subst (λ o. IsNumber (get_or ranges p [] ∷ ranges_at ranges places) (cons_option o (values_at places row)) (d * total (ranges_at ranges places) + rest))
    (sym at) (d, rest, there, h, refl)

-- the values at places of a row have a number
pub some_number : (ranges : List (List Value)) (row : List Value) → IsRowOf ranges row → (places : List ℕ) → All (λ p. p < length ranges) places
    → (n : ℕ) × IsNumber (ranges_at ranges places) (values_at places row) n
some_number ranges row are [] below = (0, refl)
some_number ranges row are (p ∷ places) below =
    let near : p < length ranges = All-head (λ q. q < length ranges) p places below in
    let (v, d, at, there) = value_there ranges row p are near in
    let (rest, h) = some_number ranges row are places (All-tail (λ q. q < length ranges) p places below) in
    (d * total (ranges_at ranges places) + rest, one_more ranges row p places v d rest at there h)

-- ---- digits

pub within_more : (r : List Value) (ranges : List (List Value)) (d : ℕ) (places : List ℕ) → d < length r → AreWithin ranges places → AreWithin (r ∷ ranges) (d ∷ places)
within_more r ranges d places near h = record { few = let f = h.few in omega (arith, f); each = each } where
  each : (k : ℕ) → k < length (d ∷ places) → get_or (d ∷ places) k 0 < length (get_or (r ∷ ranges) k [])
  each zero l = near
  each (suc k) l = h.each k (omega (arith, l))

-- ---- weights

pub some_rest : (l t : ℕ) → 0 < l * t → (0 < t) × (t ≤ l * t)
some_rest l t h = elim (cases_lt 0 t) [
  | inr none ↦ absurd (omega (arith, h, mul-le-mul_left {m = t} {n = 0} l (omega (arith, none))))
  | inl some ↦ elim (cases_lt 0 l) [
    | inl more ↦ (some, omega (arith, mul-le-mul_right {m = 1} {n = l} t (omega (arith, more))))
    | inr none ↦ absurd (omega (arith, h, mul-le-mul_right {m = l} {n = 0} t (omega (arith, none))))
  ]
]

-- those after have no more rows
pub fewer_behind : (ranges : List (List Value)) (places : List ℕ) (i : ℕ) → 0 < total (ranges_at ranges places)
    → total (ranges_at ranges (drop i places)) ≤ total (ranges_at ranges places)
fewer_behind ranges places zero some = omega arith
fewer_behind ranges [] (suc i) some = omega arith
fewer_behind ranges (p ∷ places) (suc i) some =
    let (rest, less) = some_rest (length (get_or ranges p [])) (total (ranges_at ranges places)) some in
    omega (arith, fewer_behind ranges places i rest, less)

pub weight_at : (ranges : List (List Value)) (places : List ℕ) (j d : ℕ) → j < length places
    → get_or (weights (ranges_at ranges places)) j d ≡ total (ranges_at ranges (drop (j + 1) places))
weight_at ranges [] j d l = absurd (omega (arith, l))
weight_at ranges (p ∷ places) zero d l = refl
weight_at ranges (p ∷ places) (suc j) d l =
    let next : suc (j + 1) ≡ suc j + 1 = omega arith in
    weight_at ranges places j d (omega (arith, l)) ∙ ap (λ k. total (ranges_at ranges (drop k (p ∷ places)))) next

pub length_weights : (ranges : List (List Value)) (places : List ℕ) → length (weights (ranges_at ranges places)) ≡ length places
length_weights ranges [] = refl
length_weights ranges (p ∷ places) = ap suc (length_weights ranges places)

-- the range at a place
pub range_there : (ranges : List (List Value)) (places : List ℕ) (i : ℕ) → i < length places → get_or (ranges_at ranges places) i [] ≡ get_or ranges (get_or places i 0) []
range_there ranges [] i l = absurd (omega (arith, l))
range_there ranges (p ∷ places) zero l = refl
range_there ranges (p ∷ places) (suc i) l = range_there ranges places i (omega (arith, l))

pub length_ranges : (ranges : List (List Value)) (places : List ℕ) → length (ranges_at ranges places) ≡ length places
length_ranges ranges [] = refl
length_ranges ranges (p ∷ places) = ap suc (length_ranges ranges places)
