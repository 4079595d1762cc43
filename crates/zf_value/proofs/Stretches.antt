-- Where the pairs of an ascending relation that begin with one value stand.
use Rattle.zf_value.proofs.Prelude.{◌+◌, ◌-◌, ◌<◌, ◌∙◌, ◌∷◌, ◌≡◌, ◌≤◌, [], ap, arith, drop, Equal, false, get_or, Greater, length, length-drop, length-take, Less, List, Ordering, refl, sym, take, true, ℕ, ⊎_elim, cases_lt, tied_itself, get_or-drop, get_or-take, slice_cmp, Contains, IsPartitionedBy, IsPartitionPoint, is_le, is_lt, ordering_index, ordering_then, pair, level_order, IsAscending, IsMember, value_order, AreRelated, place_at, place_beside, place_of_first, out-Value, Value, Value-F, outs-Tuple, Bool, AllWithin, HoldsAt, total-law}
use Rattle.zf_value.proofs.Among.{contained, member, ascending-take, ascending-drop}
use Rattle.zf_value.proofs.Exact.{cmp_is, exact}
use Rattle.zf_value.proofs.Searched.{index_below, rising}

-- ---- places rise with values

at_most_two : (o : Ordering) → ordering_index o ≤ 2
at_most_two Less = omega arith
at_most_two Equal = omega arith
at_most_two Greater = omega arith

first_below : (x y z : Value) (o rest : Ordering) → value_order y z ≡ o → ordering_then o rest ≡ Less → ordering_index (value_order y x) ≤ ordering_index (value_order z x)
first_below x y z Less rest e l = index_below x y z _ refl e
first_below x y z Equal rest e l = let k : ordering_index (value_order y x) ≡ ordering_index (value_order z x) = ap (λ u. ordering_index (value_order u x)) (exact y z e) in omega (arith, k)
first_below x y z Greater rest e l = (cc)

firsts_below : (x : Value) (ys zs : List Value) → slice_cmp value_order ys zs ≡ Less → ordering_index (place_of_first x ys) ≤ ordering_index (place_of_first x zs)
firsts_below x [] zs l = omega arith
firsts_below x (y ∷ ys) [] l = (cc)
firsts_below x (y ∷ ys) (z ∷ zs) l = first_below x y z (value_order y z) (slice_cmp value_order ys zs) refl l

level_below : (x : Value) (a b : Value-F Value) → level_order value_order a b ≡ Less → ordering_index (place_at x a) ≤ ordering_index (place_at x b)
level_below x (Value-F.Int m) b l = omega arith
level_below x (Value-F.Elem t i) b l = omega arith
level_below x (Value-F.Tuple ys) (Value-F.Int n) l = (cc)
level_below x (Value-F.Tuple ys) (Value-F.Elem t i) l = (cc)
level_below x (Value-F.Tuple ys) (Value-F.Tuple zs) l = firsts_below x ys zs l
level_below x (Value-F.Tuple ys) (Value-F.SetOf zs) l = at_most_two (place_of_first x ys)
level_below x (Value-F.SetOf ys) (Value-F.Int n) l = (cc)
level_below x (Value-F.SetOf ys) (Value-F.Elem t i) l = (cc)
level_below x (Value-F.SetOf ys) (Value-F.Tuple zs) l = (cc)
level_below x (Value-F.SetOf ys) (Value-F.SetOf zs) l = omega arith

place_below : (x a b : Value) → value_order a b ≡ Less → ordering_index (place_beside x a) ≤ ordering_index (place_beside x b)
place_below x a b l = level_below x (out-Value a) (out-Value b) (sym (cmp_is a b) ∙ l)

-- ---- the two ends

lt_down : (o p : Ordering) → ordering_index o ≤ ordering_index p → is_lt p ≡ true → is_lt o ≡ true
lt_down Less p l e = refl
lt_down Equal Less l e = absurd (omega (arith, l))
lt_down Equal Equal l e = (cc)
lt_down Equal Greater l e = (cc)
lt_down Greater Less l e = absurd (omega (arith, l))
lt_down Greater Equal l e = (cc)
lt_down Greater Greater l e = (cc)

le_down : (o p : Ordering) → ordering_index o ≤ ordering_index p → is_le p ≡ true → is_le o ≡ true
le_down Less p l e = refl
le_down Equal p l e = refl
le_down Greater Less l e = absurd (omega (arith, l))
le_down Greater Equal l e = absurd (omega (arith, l))
le_down Greater Greater l e = (cc)

pub parted_before : (x : Value) (r : List Value) → IsAscending r → IsPartitionedBy (λ z. is_lt (place_beside x z)) r
parted_before x r h i j d l m e = lt_down _ _ (rising (λ z. ordering_index (place_beside x z)) r h (place_below x) i j d l m) e

pub parted_behind : (x : Value) (r : List Value) → IsAscending r → IsPartitionedBy (λ z. is_le (place_beside x z)) r
parted_behind x r h i j d l m e = le_down _ _ (rising (λ z. ordering_index (place_beside x z)) r h (place_below x) i j d l m) e

abbrev pub IsStart : Value → List Value → ℕ → Type 0
IsStart x r i = IsPartitionPoint (λ z. is_lt (place_beside x z) ≡ true) (λ z. is_lt (place_beside x z) ≡ false) r i

abbrev pub IsEnd : Value → List Value → ℕ → Type 0
IsEnd x r i = IsPartitionPoint (λ z. is_le (place_beside x z) ≡ true) (λ z. is_le (place_beside x z) ≡ false) r i

lt_is_le : (o : Ordering) → is_lt o ≡ true → is_le o ≡ false → ⊥
lt_is_le Less e f = (cc)
lt_is_le Equal e f = (cc)
lt_is_le Greater e f = (cc)

pub in_order : (x : Value) (r : List Value) (i j : ℕ) → IsStart x r i → IsEnd x r j → i ≤ length r → i ≤ j
in_order x r i j s e l = ⊎_elim (λ k. absurd (lt_is_le _ (s.0 j x (omega arith) k) (e.1 j x (omega arith) (omega (arith, k, l))))) (λ k. k) (cases_lt j i)

lt_to_le : (o : Ordering) → is_lt o ≡ true → is_le o ≡ true
lt_to_le Less e = refl
lt_to_le Equal e = (cc)
lt_to_le Greater e = (cc)

-- those before the end that are found so far
abbrev pub AreBefore : Value → List Value → ℕ → Type 0
AreBefore x r i = AllWithin (λ z. is_le (place_beside x z) ≡ true) r 0 i

pub from_start : (x : Value) (r : List Value) (i : ℕ) → IsStart x r i → AreBefore x r i
from_start x r i s k d low l = lt_to_le _ (s.0 k d low l)

pub end_here : (x : Value) (r : List Value) (i : ℕ) → IsAscending r → AreBefore x r i → HoldsAt (λ z. is_le (place_beside x z) ≡ false) r i → IsEnd x r i
end_here x r i h b f = (b, λ k d low l. at k d low l (is_le (place_beside x (get_or r k d))) refl)
  where
    at : (k : ℕ) (d : Value) → i ≤ k → k < length r → (b : Bool) → is_le (place_beside x (get_or r k d)) ≡ b → is_le (place_beside x (get_or r k d)) ≡ false
    at k d low l false e = e
    at k d low l true e = let t = parted_behind x r h i k d low l e in let u = f d in (cc)

pub end_of_all : (x : Value) (r : List Value) (i : ℕ) → AreBefore x r i → length r ≤ i → IsEnd x r i
end_of_all x r i b l = (b, λ k d low m. absurd (omega (arith, l, low, m)))

-- ---- what stands between them

pair_place : (x u y : Value) → place_beside x (pair u y) ≡ value_order u x
pair_place x u y = ap (place_at x) (outs-Tuple (u ∷ y ∷ []))

is_same : (o : Ordering) → is_lt o ≡ false → is_le o ≡ true → o ≡ Equal
is_same Less e f = (cc)
is_same Equal e f = refl
is_same Greater e f = (cc)

-- a member of a part of a list
in_part : (r : List Value) (i j : ℕ) (z : Value) → j ≤ length r → IsMember z (take (j - i) (drop i r)) → (k : ℕ) × (i ≤ k) × (k < j) × (get_or r k z ≡ z)
in_part r i j z l m =
    let c = contained (take (j - i) (drop i r)) z m in
    let n : c.0 < j - i = omega (arith, c.1, length-take (j - i) (drop i r)) in
    (i + c.0, omega arith, omega (arith, n), sym (get_or-drop i r c.0 z) ∙ sym (get_or-take (j - i) (drop i r) c.0 z n) ∙ c.2)

from_part : (r : List Value) (i j k : ℕ) (z : Value) → j ≤ length r → i ≤ k → k < j → get_or r k z ≡ z → IsMember z (take (j - i) (drop i r))
from_part r i j k z l a b e =
    let n : k - i < j - i = omega (arith, a, b) in
    let s : i + (k - i) ≡ k = omega (arith, a) in
    member _ z (k - i, omega (arith, n, l, length-take (j - i) (drop i r), length-drop i r), get_or-take (j - i) (drop i r) (k - i) z n ∙ get_or-drop i r (k - i) z ∙ ap (λ n. get_or r n z) s ∙ e)

pub related_between : (x : Value) (r : List Value) (i j : ℕ) → IsAscending r → IsStart x r i → IsEnd x r j → j ≤ length r → AreRelated r x (take (j - i) (drop i r))
related_between x r i j h s e l = record {
  ascending = ascending-take (j - i) (drop i r)
      (ascending-drop i r h);
  first = first;
  same = λ y. (
    λ m. let p = in_part r i j (pair x y) l m in member r (pair x y) (p.0, omega (arith, p.2, l), p.3),
    λ m. back y (contained r (pair x y) m),
  );
}
  where
    first : (u y : Value) → IsMember (pair u y) (take (j - i) (drop i r)) → u ≡ x
    first u y m =
        let p = in_part r i j (pair u y) l m in
        let at : place_beside x (get_or r p.0 (pair u y)) ≡ value_order u x = ap (place_beside x) p.3 ∙ pair_place x u y in
        exact u x (sym at ∙ is_same _ (s.1 p.0 (pair u y) p.1 (omega (arith, p.2, l))) (e.0 p.0 (pair u y) (omega arith) p.2))

    back : (y : Value) → Contains r (pair x y) → IsMember (pair x y) (take (j - i) (drop i r))
    back y c =
        let at : place_beside x (get_or r c.0 (pair x y)) ≡ Equal = ap (place_beside x) c.2 ∙ pair_place x x y ∙ tied_itself total-law x in
        from_part r i j c.0 (pair x y) l (⊎_elim (λ k. absurd (no_start (s.0 c.0 (pair x y) (omega arith) k) at)) (λ k. k) (cases_lt c.0 i))
        (⊎_elim (λ k. k) (λ k. absurd (no_end (e.1 c.0 (pair x y) k c.1) at)) (cases_lt c.0 j)) c.2
      where
        no_start : {o : Ordering} → is_lt o ≡ true → o ≡ Equal → ⊥
        no_start {o} a b = let f : is_lt o ≡ false = ap is_lt b in (cc)

        no_end : {o : Ordering} → is_le o ≡ false → o ≡ Equal → ⊥
        no_end {o} a b = let f : is_le o ≡ true = ap is_le b in (cc)

-- ---- a pair among others

pub beside_pair : (z x y : Value) (a : Value-F Value) → out-Value z ≡ a → value_order z (pair x y) ≡ level_order value_order a (Value-F.Tuple (x ∷ y ∷ []))
beside_pair z x y a e = cmp_is z (pair x y) ∙ ap (λ u. level_order value_order u (out-Value (pair x y))) e ∙ ap (level_order value_order a) (outs-Tuple (x ∷ y ∷ []))

pub longer_beside : (ps : List Value) (x y a b : Value) → 3 ≤ length ps → a ≡ get_or ps 0 a → b ≡ get_or ps 1 b
    → slice_cmp value_order ps (x ∷ y ∷ []) ≡ ordering_then (value_order a x) (ordering_then (value_order b y) Greater)
longer_beside [] x y a b l e f = absurd (omega (arith, l))
longer_beside (p ∷ []) x y a b l e f = absurd (omega (arith, l))
longer_beside (p ∷ q ∷ []) x y a b l e f = absurd (omega (arith, l))
longer_beside (p ∷ q ∷ r ∷ ps) x y a b l e f = ap (λ u. ordering_then (value_order u x) (ordering_then (value_order q y) Greater)) (sym e)
    ∙ ap (λ u. ordering_then (value_order a x) (ordering_then (value_order u y) Greater)) (sym f)
