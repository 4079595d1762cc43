-- Keys of the values of a component: where the sides of an equation have two of them, it is False.
use Rattle.zf_enum.proofs.Prelude.{◌++◌, ◌+◌, ◌-◌, ◌<◌, ◌∙◌, ◌∷◌, ◌≡◌, ◌≤◌, ◌⊎◌, [], ap, ap₂, arith, cond, false, get_or, inl, inr, length, List, refl, Some, subst, suc, sym, true, zero, ℕ, ⊎_elim, cases_Bool, cases_lt, false≢true, length-picked, slice_get, AreWithin, picked, Outcome, Is, Out, Undefined, Value, Equal, chain, link, no_links, ResolvedTree, Environment, in_row, IsTruth, IsAtom, due, due_of, None, max, property, uses, follows_outcome, need, ◌≢◌, IfSome, replicate, Holds, IsKeyOf, AreSides, HasKey, HasKeyWith, IsKey, IsKeyed, IsKeyOfValue, IsOnly, key_side, number_of, Span}
use Rattle.zf_value.specs.declared.value.Truth.TheVariants as truth
use Rattle.zf_walk.specs.declared.judge.Truth.TheVariants.{False}
use Rattle.zf_enum.proofs.Dues.{due_need}
use Rattle.zf_enum.proofs.Fixed.{get_front, get_next, truth_at, uses_below}

-- ---- the sides of an equation

-- the side that names the component is the key side
only-key : (p : ResolvedTree) (k : ℕ) (span : Span) (left right t s : ResolvedTree) → p ≡ chain span left (link Equal right no_links) → AreSides left right k t s → t ≡ key_side p k
only-key p k span left right t s is a =
    let whole : key_side p k ≡ cond (uses left k) left right = ap (λ q. key_side q k) is in
    ⊎_elim
    (λ first. sym (whole ∙ ap (λ b. cond b left right) (subst (λ x. uses x k ≡ true) (sym first.0) (a.key).named) ∙ first.0))
    (λ last.
    let before = a.before in
    let unused : uses left k ≡ false = ⊎_elim
    (λ used. absurd (let b = uses_below left k used in let d : due left ≤ k = subst (λ x. due x ≤ k) (sym last.0) before in omega (arith, b, d)))
    (λ none. none) (cases_Bool (uses left k)) in
    sym (whole ∙ ap (λ b. cond b left right) unused ∙ last.1))
    a.sides

pub keyed-is : (p : ResolvedTree) (k : ℕ) (t s : ResolvedTree) → IsKeyed p k t s → t ≡ key_side p k
keyed-is p k t s (span, left, right, is, a) = only-key p k span left right t s is a

-- ---- two keys

differ : (x y : Outcome) (m n : ℕ) → IsKey x m → IsKey y n → m ≢ n → IsAtom x y (Holds Equal) truth.False
differ (Is v) (Is w) m n a b h = λ e. h (a ∙ ap number_of e ∙ sym b)
differ (Is v) Undefined m n a b h = refl
differ (Is v) Out m n a b h = absurd b
differ Undefined (Is w) m n a b h = refl
differ Undefined Undefined m n a b h = refl
differ Undefined Out m n a b h = absurd b
differ Out y m n a b h = absurd a

-- where the sides have two keys the equation is False
pub keyed-false : (e : Environment) (row : List Value) (p : ResolvedTree) (k : ℕ) (t s : ResolvedTree) (m n : ℕ) → IsKeyed p k t s
    → HasKey e row t m → HasKey e row s n → m ≢ n → IsTruth (in_row e row) p truth.False
keyed-false e row p k t s m n (span, left, right, is, a) (x, hx, kx) (y, hy, ky) h =
    subst (λ q. IsTruth (in_row e row) q truth.False) (sym is) (⊎_elim
    (λ first. subst (λ q. IsTruth (in_row e row) q truth.False)
    (ap₂ (λ (u w : ResolvedTree). chain span u (link Equal w no_links)) (sym first.0) (sym first.1))
    (x, hx, (y, hy, inl (differ x y m n kx ky h))))
    (λ last. subst (λ q. IsTruth (in_row e row) q truth.False)
    (ap₂ (λ (u w : ResolvedTree). chain span u (link Equal w no_links)) (sym last.0) (sym last.1))
    (y, hy, (x, hx, inl (differ y x n m ky kx (λ same. h (sym same))))))
    a.sides)

-- ---- rows

-- the key in a row is that in each that goes on
key-on : (e : Environment) (front more : List Value) (t : ResolvedTree) (n : ℕ) → due t ≤ length front → HasKey e front t n → HasKey e (front ++ more) t n
key-on e front more t n few (o, h, is) =
    (o, follows_outcome e front (front ++ more) t o (λ j u. get_front front more j (let b = uses_below t j u in omega (arith, b, few))) h, is)

pub get_repeated : (v : Value) (n k : ℕ) → k < n → slice_get (replicate n v) k ≡ Some v
get_repeated v zero k l = absurd (omega arith)
get_repeated v (suc n) zero l = refl
get_repeated v (suc n) (suc k) l = get_repeated v n k (omega arith)

-- the key in a row of one value is that in each row that has it as the component
pub key-alone : (e : Environment) (v w : Value) (t : ResolvedTree) (k n m : ℕ) → IsOnly t k → k < m → v ≡ w → HasKey e (replicate m v) t n → HasKeyWith e t k w n
key-alone e v w t k n m only low same (o, h, is) row here = (
  o,
  follows_outcome e (replicate m v) row t o
      (λ j u. let at = only.alone j u in get_repeated v m j (omega (arith, at, low)) ∙ sym (subst (λ i. slice_get row i ≡ Some v) (sym at) (here ∙ ap Some (sym same)))) h,
  is,
)

-- ---- conjuncts

pub is-key-of : (e : Environment) (ts : List ResolvedTree) (c last : ℕ) (p t s : ResolvedTree) (ranges : List (List Value)) (places : List ℕ) (i n : ℕ)
    → slice_get ts c ≡ Some p → last ≡ due p - 1 → IsKeyed p last t s
    → ((v : Value) → slice_get (get_or ranges last []) i ≡ Some v → HasKeyWith e t last v n)
    → IsKeyOf (property e ts) (IsKeyOfValue e ts c) c ranges places (Some i) n
is-key-of e ts c last p t s ranges places i n at where_is keyed h k v due_is is =
    let same : k ≡ last = let d = ap due_of at in omega (arith, d, due_is, where_is) in
    let key = subst (λ u. HasKeyWith e u last v n) (keyed-is p last t s keyed) (h v (subst (λ j. slice_get (get_or ranges j []) i ≡ Some v) same is)) in
    subst (λ q. IfSome q (λ u. HasKeyWith e (key_side u (due u - 1)) (due u - 1) v n)) (sym at) (subst (λ j. HasKeyWith e (key_side p j) j v n) where_is key)

pub is-wanted : (e : Environment) (ts : List ResolvedTree) (c last : ℕ) (p t s : ResolvedTree) (ranges : List (List Value)) (places : List ℕ) (n : ℕ)
    → slice_get ts c ≡ Some p → last ≡ due p - 1 → IsKeyed p last t s → AreWithin ranges places → HasKey e (picked ranges places) s n
    → IsKeyOf (property e ts) (IsKeyOfValue e ts c) c ranges places None n
is-wanted e ts c last p t s ranges places n at where_is keyed' within wanted due_is v m more key other row =
    let front = picked ranges places in
    let k = due p - 1 in
    let keyed = subst (λ j. IsKeyed p j t s) where_is keyed' in
    let needed : due p ≡ length places + 1 = sym (ap due_of at) ∙ due_is in
    let long : k ≡ length front = let w = length-picked ranges places within in omega (arith, needed, w) in
    let whole = front ++ v ∷ more in
    let here : slice_get whole k ≡ Some v = get_next front more v k long in
    let keys = subst (λ q. IfSome q (λ u. HasKeyWith e (key_side u (due u - 1)) (due u - 1) v m)) at key in
    let mine = subst (λ u. HasKey e whole u m) (sym (keyed-is p k t s keyed)) (keys whole here) in
    truth_at e whole ts c p at (keyed-false e whole p k t s m n keyed mine
    (key-on e front (v ∷ more) s n (let b = (keyed.4).before in omega (arith, b, long)) wanted) other)

-- the sides need no more components than the equation
pub sides-due : (span : Span) (left right : ResolvedTree) → (due left ≤ due (chain span left (link Equal right no_links))) × (due right ≤ due (chain span left (link Equal right no_links)))
sides-due span left right =
    let p = chain span left (link Equal right no_links) in
    let m = due p + due left + due right in
    let whole : need m p ≡ max (need m left) (max (need m right) 0) = refl in
    let one = due_need m left (omega arith) in
    let other = due_need m right (omega arith) in
    let both = due_need m p (omega arith) in
    (omega (arith, whole, one, both), omega (arith, whole, other, both))

-- no component before k is named, and none after
pub only_one : (t : ResolvedTree) (k n : ℕ) → uses t k ≡ true → due t ≤ k + 1 → k ≤ n → ((j : ℕ) → j < n → uses t j ≡ false) → IsOnly t k
only_one t k n named low all none = record {
  named = named;
  alone = λ j u. let below = uses_below t j u in ⊎_elim (λ less. absurd (false≢true (sym (none j (omega (arith, less, all))) ∙ u))) (λ more. omega (arith, more, below, low)) (cases_lt j k);
}

-- ---- which side is the key

pub first_sides : (left right : ResolvedTree) (k : ℕ) → IsOnly left k → due right ≤ k → AreSides left right k left right
first_sides left right k only low = record { sides = inl (refl, refl); key = only; before = low }

pub last_sides : (left right : ResolvedTree) (k : ℕ) → IsOnly right k → due left ≤ k → AreSides left right k right left
last_sides left right k only low = record { sides = inr (refl, refl); key = only; before = low }
