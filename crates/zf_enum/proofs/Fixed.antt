-- Equations that fix a component: where its value is another than the expression's, they are False.
use Rattle.zf_enum.proofs.Prelude.{◌++◌, ◌+◌, ◌<◌, ◌∙◌, ◌∷◌, ◌≡◌, ◌≤◌, ◌⊎◌, [], ap, ap₂, arith, Bool, cases_lt, cond, false, get_or, inl, inr, length, List, max, refl, Some, subst, suc, sym, true, zero, ℕ, ⊎_elim, eqb-true, false≢true, Contains, slice_get, length-picked, AreWithin, picked, Leaves, Reference, Component, Global, Local, Outcome, Is, Out, Undefined, Value, Equal, chain, link, no_links, ResolvedTree, references, Environment, value_or, in_row, HasOutcome, IsTruth, IsAtom, need, AreCandidates, Fixes, IsKept, due, greatest_place, HasTruth, is_among, is_component, place_named, property, uses, Context, outcome_in, Holds, eq-eqb}
use Rattle.zf_value.specs.declared.value.Truth.TheVariants as truth
use Rattle.zf_enum.specs.declared.candidates.Tie.TheVariants as tie
use Rattle.zf_enum.proofs.Dues.{due_need, either_true}

-- ---- which components are used

component_place : (k : ℕ) (r : Reference) → is_component k r ≡ true → place_named r ≡ k + 1
component_place k (Component i) e = ap (λ n. n + 1) (eqb-true i k e)
component_place k (Local i) e = absurd (false≢true e)
component_place k (Global i) e = absurd (false≢true e)

among_below : (k : ℕ) (rs : List Reference) → is_among k rs ≡ true → k < greatest_place rs
among_below k [] e = absurd (false≢true e)
among_below k (r ∷ rs) e =
    ⊎_elim (λ a. let p = component_place k r a in omega (arith, p)) (λ a. let p = among_below k rs a in omega (arith, p)) (either_true (is_component k r) (is_among k rs) e)

-- a component that is used is one of those that are due
pub uses_below : (t : ResolvedTree) (k : ℕ) → uses t k ≡ true → k < due t
uses_below t k e = among_below k (references t) e

pub side_need : (m k : ℕ) (p t : ResolvedTree) → Fixes p k t → need m t ≤ need m p
side_need m k p t (span, left, right, is, (apart, inl (name, same))) =
    let whole : need m p ≡ max (need m left) (max (need m right) 0) = ap (need m) is in
    let part : need m t ≡ need m right = ap (need m) same in
    omega (arith, whole, part)
side_need m k p t (span, left, right, is, (apart, inr (name, same))) =
    let whole : need m p ≡ max (need m left) (max (need m right) 0) = ap (need m) is in
    let part : need m t ≡ need m left = ap (need m) same in
    omega (arith, whole, part)

-- the expression needs no more components than the equation
pub side_due : (k : ℕ) (p t : ResolvedTree) → Fixes p k t → due t ≤ due p
side_due k p t f =
    let m = due p + due t in
    let one = due_need m t (omega arith) in
    let other = due_need m p (omega arith) in
    omega (arith, one, other, side_need m k p t f)

own_place : (k : ℕ) (r : Reference) → place_named r ≡ k + 1 → is_component k r ≡ true
own_place k (Component i) e = eq-eqb i k (omega (arith, e))
own_place k (Local i) e = absurd (omega (arith, e))
own_place k (Global i) e = absurd (omega (arith, e))

or_right : (a b : Bool) → b ≡ true → cond a true b ≡ true
or_right true b e = refl
or_right false b e = e

-- the last component that is due is used
last_used : (k : ℕ) (rs : List Reference) → greatest_place rs ≡ k + 1 → is_among k rs ≡ true
last_used k [] e = absurd (omega (arith, e))
last_used k (r ∷ rs) e =
    ⊎_elim (λ less. or_right (is_component k r) (is_among k rs) (last_used k rs (omega (arith, less, e))))
    (λ more. ap (λ b. cond b true (is_among k rs)) (own_place k r (omega (arith, more, e)))) (cases_lt (place_named r) (greatest_place rs))

beside_unused : (k : ℕ) (p t : ResolvedTree) → Fixes p k t → uses t k ≡ false
beside_unused k p t (span, left, right, is, (apart, which)) = apart

-- where an equation needs no component after the one that it fixes, the expression needs only those before
pub side_before : (k : ℕ) (p t : ResolvedTree) → Fixes p k t → due p ≤ k + 1 → due t ≤ k
side_before k p t fixed few =
    ⊎_elim (λ less. absurd (false≢true (sym (beside_unused k p t fixed) ∙ last_used k (references t) (let d = side_due k p t fixed in omega (arith, less, few, d)))))
    (λ more. omega (arith, more)) (cases_lt k (due t))

-- ---- another value than the expression's

-- the outcome is not out, and isn't this value
abbrev pub IsOther : Outcome → Value → Type 0
IsOther (Is w) v = w ≡ v → ⊥
IsOther Undefined v = Unit {0}
IsOther Out v = ⊥

component_first : (o : Outcome) (v : Value) → IsOther o v → IsAtom (Is v) o (Holds Equal) truth.False
component_first (Is w) v h = λ e. h (sym e)
component_first Undefined v h = refl
component_first Out v h = absurd h

component_last : (o : Outcome) (v : Value) → IsOther o v → IsAtom o (Is v) (Holds Equal) truth.False
component_last (Is w) v h = h
component_last Undefined v h = refl
component_last Out v h = absurd h

-- an equation is false where the component has a value, and the expression another outcome
pub false_in : (c : Context) (k : ℕ) (p t : ResolvedTree) (v : Value) (o : Outcome) → Fixes p k t → Is v ≡ outcome_in c (Component k) → HasOutcome c t o → IsOther o v → IsTruth c p truth.False
false_in c k p t v o (span, left, right, is, (apart, inl ((at, name), same))) here h other =
    subst (λ q. IsTruth c q truth.False) (sym (is ∙ ap₂ (λ (a b : ResolvedTree). chain span a (link Equal b no_links)) name (sym same)))
    (Is v, here, (o, h, inl (component_first o v other)))
false_in c k p t v o (span, left, right, is, (apart, inr ((at, name), same))) here h other =
    subst (λ q. IsTruth c q truth.False) (sym (is ∙ ap₂ (λ (a b : ResolvedTree). chain span a (link Equal b no_links)) (sym same) name))
    (o, h, (Is v, here, inl (component_last o v other)))

-- ---- the places that are left

other_at : (o : Outcome) (v : Value) (range : List Value) (places : List ℕ) (i : ℕ) → IsKept tie.Value o range places → slice_get range i ≡ Some v → (Contains places i → ⊥) → IsOther o v
other_at (Is w) v range places i kept at out = λ same. out (kept i (subst (λ u. slice_get range i ≡ Some u) (sym same) at))
other_at Undefined v range places i kept at out = tt
other_at Out v range places i kept at out = absurd kept

pub get_front : (xs ys : List Value) (k : ℕ) → k < length xs → slice_get xs k ≡ slice_get (xs ++ ys) k
get_front [] ys k l = absurd (omega arith)
get_front (x ∷ xs) ys zero l = refl
get_front (x ∷ xs) ys (suc k) l = get_front xs ys k (omega arith)

pub get_next : (xs ys : List Value) (y : Value) (k : ℕ) → k ≡ length xs → slice_get (xs ++ y ∷ ys) k ≡ Some y
get_next [] ys y zero l = refl
get_next [] ys y (suc k) l = absurd (omega arith)
get_next (x ∷ xs) ys y zero l = absurd (omega arith)
get_next (x ∷ xs) ys y (suc k) l = get_next xs ys y k (omega arith)

pub truth_at : (e : Environment) (row : List Value) (ts : List ResolvedTree) (c : ℕ) (p : ResolvedTree) → slice_get ts c ≡ Some p
    → IsTruth (in_row e row) p truth.False → HasTruth e row (slice_get ts c) truth.False
truth_at e row ts c p at h = subst (λ q. HasTruth e row q truth.False) (sym at) h

-- an equation leaves the candidates of its expression
pub candidates_left : (e : Environment) (ts : List ResolvedTree) (c k : ℕ) (p t : ResolvedTree) (ranges : List (List Value)) (places left : List ℕ)
    → slice_get ts c ≡ Some p → k ≡ length places → Fixes p k t → AreWithin ranges places
    → AreCandidates tie.Value e t ranges (picked ranges places) (get_or ranges (length places) []) left → Leaves (property e ts) c ranges places left
candidates_left e ts c k p t ranges places left at next fixed within candidates i v more there out is =
    let front = picked ranges places in
    let row = front ++ v ∷ more in
    let r = candidates row is (λ k l u. get_front front (v ∷ more) k l) in
    truth_at e row ts c p at (false_in (in_row e row) k p t v r.0 fixed (sym
    (ap value_or (get_next front more v k (next ∙ sym (length-picked ranges places within))))) r.1
    (other_at r.0 v (get_or ranges (length places) []) left i r.2 there out))
