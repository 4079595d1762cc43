-- When a list stays ascending with one more value after it.
use Rattle.zf_read.proofs.Prelude.{◌++◌, ◌-◌, ◌↔◌, ◌∙◌, ◌∷◌, ◌≡◌, [], ap, arith, Bool, Equal, Greater, is_lt, IsTrue, length, Less, List, Ordering, refl, Some, sym, true, slice_get, IsAscending, value_order, Value, AllByRecursion, same_Some}
use Rattle.zf_value.specs.contracts.plain.ValueOrd.TheImpl.Laws.{total-law}

abbrev last_of : Value → List Value → Value
last_of x [] = x
last_of x (y ∷ ys) = last_of y ys

below_last : (x : Value) (xs : List Value) (v : Value) → IsAscending (x ∷ xs) → value_order (last_of x xs) v ≡ Less → AllByRecursion (λ y. value_order y v ≡ Less) (x ∷ xs)
below_last x [] v h l = (l, tt)
below_last x (y ∷ ys) v h l =
    let rest = below_last y ys v h.1 l in
    (total-law.trans x y v h.0.0 rest.0, rest)

pub every_push : (P : Value → Type 0) (xs : List Value) (v : Value) → AllByRecursion P xs → P v → AllByRecursion P (xs ++ v ∷ [])
every_push P [] v h p = (p, tt)
every_push P (x ∷ xs) v h p = (h.0, every_push P xs v h.1 p)

ascending_push : (xs : List Value) (v : Value) → IsAscending xs → AllByRecursion (λ y. value_order y v ≡ Less) xs → IsAscending (xs ++ v ∷ [])
ascending_push [] v h b = (tt, tt)
ascending_push (x ∷ xs) v h b = (every_push _ xs v h.0 b.0, ascending_push xs v h.1 b.1)

last_below : (x : Value) (xs : List Value) (v : Value) → IsAscending ((x ∷ xs) ++ v ∷ []) → value_order (last_of x xs) v ≡ Less
last_below x [] v h = h.0.0
last_below x (y ∷ ys) v h = last_below y ys v h.1

last_got : (x : Value) (xs : List Value) → slice_get (x ∷ xs) (length xs) ≡ Some (last_of x xs)
last_got x [] = refl
last_got x (y ∷ ys) = last_got y ys

before : (x : Value) (xs : List Value) → length (x ∷ xs) - 1 ≡ length xs
before x xs = omega arith

pub above_last : (xs : List Value) (l v : Value) → slice_get xs (length xs - 1) ≡ Some l → IsAscending xs → value_order l v ≡ Less → IsAscending (xs ++ v ∷ [])
above_last [] l v g h o = (tt, tt)
above_last (x ∷ xs) l v g h o =
    let last = same_Some (last_of x xs) l (sym (last_got x xs) ∙ ap (slice_get (x ∷ xs)) (sym (before x xs)) ∙ g) in
    ascending_push (x ∷ xs) v h (below_last x xs v h (ap (λ y. value_order y v) last ∙ o))

pub last_under : (xs : List Value) (l v : Value) → slice_get xs (length xs - 1) ≡ Some l → IsAscending (xs ++ v ∷ []) → value_order l v ≡ Less
last_under [] l v g h = (cc)
last_under (x ∷ xs) l v g h =
    let last = same_Some (last_of x xs) l (sym (last_got x xs) ∙ ap (slice_get (x ∷ xs)) (sym (before x xs)) ∙ g) in
    ap (λ y. value_order y v) (sym last) ∙ last_below x xs v h

less : (o : Ordering) → is_lt o ≡ true → o ≡ Less
less Less e = refl
less Equal e = (cc)
less Greater e = (cc)

pub above_iff : (xs : List Value) (l v : Value) (o : Ordering) (b : Bool) → slice_get xs (length xs - 1) ≡ Some l → IsAscending xs → o ≡ value_order l v
    → b ≡ is_lt o → IsTrue b ↔ IsAscending (xs ++ v ∷ [])
above_iff xs l v o b g h c t = (
  λ s. above_last xs l v g h (sym c ∙ less o (sym t ∙ s)),
  λ up. t ∙ ap is_lt (c ∙ last_under xs l v g up),
)
