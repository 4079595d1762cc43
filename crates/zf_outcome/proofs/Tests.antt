-- Sets that are described by what they are made of: each that is not out is there, and its members are reported.
use Rattle.zf_outcome.proofs.Prelude.{cases_lt, ◌+ℤ◌, ◌<ℤ◌, pos, either_way, members-SetOf, OnNumbers, IsBetweenNumbers, IsInterval, AreFrom, IsSubset, IsCross, IsPower, IsMember, IsSetOf, members, value_order, Outcome, Is, Out, Undefined, Truth, Int, out-Value, SetOf, Tuple, Value, Value-F, outs-Int, AreArrows, IsArrow, IsTupleFrom, Arrow, Relation, is_membership, IsDescribed, IsUnbuilt, told_in, Describes, IsInDescribed, IsTruthIn, found_outcome, one_out, one_undefined, OnOne, OnSeveral, Several, values, Holds, IsAtom, Described, Arrows, Interval, Plain, Power, Product, IsWithin, ◌≡◌, ◌↔◌, ◌⊎◌, inl, inr, ◌≤◌, ◌<◌, ℕ, Bool, true, false, ℤ, Option, Some, None, List, [], refl, sym, ap, ◌∙◌, subst, ⊎_elim, Less, arith, IsTrue, Vec, Global, false≢true, level_order}
use Rattle.std.proofs.lemmas.Int.{ints}
use Rattle.std.specs.Cmp.{int_cmp_is}
use Rattle.zf_tree.specs.declared.symbol.Relation.TheVariants as relation
use Rattle.zf_value.specs.declared.TheConstants.{SET_MAX}
use Rattle.zf_value.specs.declared.value.Truth.TheVariants as truth
use Rattle.zf_value.proofs.Counted.{ascending-first, length-first}
use Rattle.zf_value.proofs.Exact.{cmp_is}
use Rattle.zf_value.proofs.Intervals.{number_list, numbers_between, interval_out}
use Rattle.zf_outcome.specs.declared.found.Found.{Found}
use Rattle.zf_outcome.specs.declared.found.Found.TheVariants as found

-- ---- sets that are there

-- there is such a set
abbrev pub IsThere : (Outcome → Type 0) → Type 0
IsThere S = (w : Value) × S (Is w)

number-rises : (a : ℤ) (i j : ℕ) → i < j → value_order (Int (a +ℤ pos i)) (Int (a +ℤ pos j)) ≡ Less
number-rises a i j l =
    let m = a +ℤ pos i in
    let n = a +ℤ pos j in
    cmp_is (Int m) (Int n) ∙ ap (λ x. level_order value_order x (out-Value (Int n))) (outs-Int m) ∙ ap (level_order value_order (Value-F.Int m)) (outs-Int n)
    ∙ sym (int_cmp_is m n Less (omega (arith, ints, l)))

-- so many numbers from a on are those to b
numbers-there : (a b : ℤ) (k : ℕ) → (a +ℤ pos k) ≡ (b +ℤ pos 1) → k ≤ SET_MAX → IsInterval a b (Is (SetOf (number_list a k)))
unfolding IsInterval
numbers-there a b k e l =
    (number_list a k, refl, ascending-first (λ i. Int (a +ℤ pos i)) (number-rises a) k, subst (λ n. n ≤ SET_MAX) (sym (length-first (λ i. Int (a +ℤ pos i)) k)) l, numbers_between a b k e)

no-numbers : (a b : ℤ) → b <ℤ a → IsInterval a b (Is (SetOf []))
unfolding IsInterval IsBetweenNumbers
no-numbers a b l = ([], refl, tt, omega arith, λ z. (λ m. absurd m, λ p. absurd (omega (arith, ints, l, p.2, p.3))))

interval-there : (a b : ℤ) → (IsInterval a b Out → ⊥) → IsThere (IsInterval a b)
interval-there a b f =
    ⊎_elim (λ p.
    let e : (a +ℤ pos p.0) ≡ (b +ℤ pos 1) = sym p.1 in
    ⊎_elim (λ l. absurd (f (interval_out a b (omega (arith, ints, e, l))))) (λ l. (SetOf (number_list a p.0), numbers-there a b p.0 e l)) (cases_lt SET_MAX p.0))
    (λ p. (SetOf [], no-numbers a b (omega (arith, ints, p.1))))
    (either_way a (b +ℤ pos 1))

set-there : (P : Value → Type 0) (o : Outcome) → IsSetOf P o → (IsSetOf P Out → ⊥) → IsThere (IsSetOf P)
set-there P (Is w) s f = (w, s)
set-there P Undefined s f = absurd s
set-there P Out s f = absurd (f s)

-- a set that is described and not out is there
pub there : (d : Described) → IsUnbuilt d → IsWithin d → IsThere (IsDescribed d)
unfolding IsPower IsInterval IsCross AreArrows
there (Plain found) u h = absurd u
there (Power v) u h = set-there _ h.0 h.1 h.2
there (Arrows kind v w) u h = set-there _ h.0 h.1 h.2
there (Interval a b) u h = set-there _ h.0 h.1 h.2
there (Product sets) u h = set-there _ h.0 h.1 h.2

-- ---- what is not out

pub not_out : (d : Described) (b : Bool) → IsTrue b ⊎ IsWithin d → b ≡ false → IsWithin d
not_out d b h e = ⊎_elim (λ t. absurd (false≢true (sym e ∙ t))) (λ w. w) h

within-by : (d : Described) (b : Bool) → IsTrue b ↔ IsDescribed d Out → (o : Outcome) → IsDescribed d o → IsTrue b ⊎ IsWithin d
within-by d true h o p = inl refl
within-by d false h o p = inr (o, p, λ q. false≢true (h.1 q))

within-there : (d : Described) (b : Bool) → IsTrue b ↔ IsDescribed d Out → IsTrue b ⊎ IsThere (IsDescribed d) → IsTrue b ⊎ IsWithin d
within-there d b h t = ⊎_elim (λ e. inl e) (λ w. within-by d b h (Is w.0) w.1) t

pub plain-within : (d : Described) (f : Found) (b : Bool) → d ≡ Plain f → IsTrue b ↔ IsDescribed (Plain f) Out → IsTrue b ⊎ IsWithin d
plain-within d f b e h = subst (λ k. IsTrue b ⊎ IsWithin k) (sym e) (within-by (Plain f) b h (found_outcome f) refl)

pub power-within : (d : Described) (s : Value) (b : Bool) → d ≡ Power s → IsTrue b ↔ IsPower (members s) Out → IsTrue b ⊎ IsThere (IsPower (members s)) → IsTrue b ⊎ IsWithin d
power-within d s b e h t = subst (λ k. IsTrue b ⊎ IsWithin k) (sym e) (within-there (Power s) b h t)

pub arrows-within : (d : Described) (kind : Arrow) (x y : Value) (b : Bool) → d ≡ Arrows kind x y → IsTrue b ↔ AreArrows kind (members x) (members y) Out
    → IsTrue b ⊎ IsThere (AreArrows kind (members x) (members y)) → IsTrue b ⊎ IsWithin d
arrows-within d kind x y b e h t = subst (λ k. IsTrue b ⊎ IsWithin k) (sym e) (within-there (Arrows kind x y) b h t)

pub interval-within : (d : Described) (m n : ℤ) (b : Bool) → d ≡ Interval m n → IsTrue b ↔ IsInterval m n Out → IsTrue b ⊎ IsWithin d
interval-within d m n b e h = subst (λ k. IsTrue b ⊎ IsWithin k) (sym e) (at b h)
  where
    at : (c : Bool) → IsTrue c ↔ IsInterval m n Out → IsTrue c ⊎ IsWithin (Interval m n)
    at true g = inl refl
    at false g = let t = interval-there m n (λ q. false≢true (g.1 q)) in inr (Is t.0, t.1, λ q. false≢true (g.1 q))

pub product-within : (d : Described) (sets : Vec Value Global) (xs : List Value) (b : Bool) → d ≡ Product sets → xs ≡ sets.items → IsTrue b ↔ IsCross xs Out
    → IsTrue b ⊎ IsThere (IsCross xs) → IsTrue b ⊎ IsWithin d
product-within d sets xs b e s h t =
    subst (λ k. IsTrue b ⊎ IsWithin k) (sym e) (within-there (Product sets) b (subst (λ ys. IsTrue b ↔ IsCross ys Out) s h) (subst (λ ys. IsTrue b ⊎ IsThere (IsCross ys)) s t))

-- ---- what is described

pub plain-describes : (S : Outcome → Type 0) (f : Found) → S (found_outcome f) → Describes S (Plain f)
unfolding Describes
plain-describes S f s o e = subst S (sym e) s

pub power-describes : (f : Found) (v s : Value) → f ≡ found.Is v → s ≡ v → Describes (OnOne (found_outcome f) (λ w. IsPower (members w))) (Power s)
unfolding Describes
power-describes f v s e q o h = subst (λ x. OnOne (found_outcome x) (λ w. IsPower (members w)) o) (sym e) (subst (λ w. IsPower (members w) o) q h)

pub one-undefined : (P : Value → Outcome → Type 0) (f : Found) → f ≡ found.Undefined → Describes (OnOne (found_outcome f) P) (Plain found.Undefined)
one-undefined P f e = plain-describes (OnOne (found_outcome f) P) found.Undefined (subst (λ x. OnOne (found_outcome x) P Undefined) (sym e) refl)

pub one-out : (P : Value → Outcome → Type 0) (f : Found) → f ≡ found.Out → Describes (OnOne (found_outcome f) P) (Plain found.Out)
one-out P f e = plain-describes (OnOne (found_outcome f) P) found.Out (subst (λ x. OnOne (found_outcome x) P Out) (sym e) refl)

-- of two numbers
pub no-left : (x y : Option ℤ) → x ≡ None → Describes (OnNumbers x y IsInterval) (Plain found.Undefined)
no-left x y e = plain-describes (OnNumbers x y IsInterval) found.Undefined (subst (λ z. OnNumbers z y IsInterval Undefined) (sym e) refl)

no-right-at : (x : Option ℤ) → OnNumbers x None IsInterval Undefined
no-right-at None = refl
no-right-at (Some a) = refl

pub no-right : (x y : Option ℤ) → y ≡ None → Describes (OnNumbers x y IsInterval) (Plain found.Undefined)
no-right x y e = plain-describes (OnNumbers x y IsInterval) found.Undefined (subst (λ z. OnNumbers x z IsInterval Undefined) (sym e) (no-right-at x))

pub both-numbers : (x y : Option ℤ) (a b p q : ℤ) → Some a ≡ x → Some b ≡ y → p ≡ a → q ≡ b → Describes (OnNumbers x y IsInterval) (Interval p q)
unfolding Describes
both-numbers x y a b p q e f g h o k =
    subst (λ z. OnNumbers z y IsInterval o) e (subst (λ z. OnNumbers (Some a) z IsInterval o) f (subst (λ n. IsInterval a n o) h (subst (λ n. IsInterval n q o) g k)))

-- of several
pub product-describes : (s : Several) (sets : Vec Value Global) (vs : List Value) → s ≡ values vs → sets.items ≡ vs → Describes (OnSeveral s IsCross) (Product sets)
unfolding Describes
product-describes s sets vs e f o h = subst (λ z. OnSeveral z IsCross o) (sym e) (subst (λ xs. IsCross xs o) f h)

pub several-undefined : (s : Several) → s ≡ one_undefined → Describes (OnSeveral s IsCross) (Plain found.Undefined)
several-undefined s e = plain-describes (OnSeveral s IsCross) found.Undefined (subst (λ z. OnSeveral z IsCross Undefined) (sym e) refl)

pub several-out : (s : Several) → s ≡ one_out → Describes (OnSeveral s IsCross) (Plain found.Out)
several-out s e = plain-describes (OnSeveral s IsCross) found.Out (subst (λ z. OnSeveral z IsCross Out) (sym e) refl)

-- ---- members

-- the members of a set are those that pass
tells : (P : Value → Type 0) (w : Value) → IsSetOf P (Is w) → (z : Value) → IsMember z (members w) ↔ P z
tells P w s z = subst (λ xs. IsMember z xs ↔ P z) (sym (ap members s.1 ∙ members-SetOf s.0)) (s.4 z)

in-set : (P : Value → Type 0) (v : Value) (b : Bool) → IsThere (IsSetOf P) → IsTrue b ↔ P v → IsTrue b ↔ ((w : Value) × IsSetOf P (Is w) × IsMember v (members w))
in-set P v b t h = (λ i. (t.0, t.1, (tells P t.0 t.1 v).1 (h.0 i)), λ p. h.1 ((tells P p.0 p.1 v).0 p.2))

in-power : (s v : Value) (b : Bool) → IsWithin (Power s) → IsTrue b ↔ IsSubset (members s) v → IsTrue b ↔ IsInDescribed (Power s) v
unfolding IsInDescribed IsPower
in-power s v b w h = in-set (IsSubset (members s)) v b (there (Power s) tt w) h

-- the same, where a description is known to be this
pub has-power : (d : Described) (s v : Value) (b : Bool) → d ≡ Power s → IsWithin d → IsTrue b ↔ IsSubset (members s) v → IsTrue b ↔ IsInDescribed d v
has-power d s v b e w h = subst (λ k. IsTrue b ↔ IsInDescribed k v) (sym e) (in-power s v b (subst IsWithin e w) h)

in-arrows : (kind : Arrow) (x y v : Value) (b : Bool) → IsWithin (Arrows kind x y) → IsTrue b ↔ IsArrow kind (members x) (members y) v → IsTrue b ↔ IsInDescribed (Arrows kind x y) v
unfolding IsInDescribed AreArrows
in-arrows kind x y v b w h = in-set (IsArrow kind (members x) (members y)) v b (there (Arrows kind x y) tt w) h

pub has-arrows : (d : Described) (kind : Arrow) (x y v : Value) (b : Bool) → d ≡ Arrows kind x y → IsWithin d → IsTrue b ↔ IsArrow kind (members x) (members y) v → IsTrue b ↔ IsInDescribed d v
has-arrows d kind x y v b e w h = subst (λ k. IsTrue b ↔ IsInDescribed k v) (sym e) (in-arrows kind x y v b (subst IsWithin e w) h)

pub in-interval : (m n : ℤ) (v : Value) (b : Bool) → (IsInterval m n Out → ⊥) → IsTrue b ↔ IsBetweenNumbers m n v → IsTrue b ↔ IsInDescribed (Interval m n) v
unfolding IsInDescribed IsInterval
in-interval m n v b f h = in-set (IsBetweenNumbers m n) v b (interval-there m n f) h

-- the numbers that are passed on are those that were given
pub same-interval : (m n p q : ℤ) (v : Value) (b : Bool) → p ≡ m → q ≡ n → IsTrue b ↔ IsBetweenNumbers p q v → IsTrue b ↔ IsBetweenNumbers m n v
same-interval m n p q v b e f h = subst (λ x. IsTrue b ↔ IsBetweenNumbers x n v) e (subst (λ y. IsTrue b ↔ IsBetweenNumbers p y v) f h)

in-product : (sets : Vec Value Global) (v : Value) (b : Bool) → IsWithin (Product sets) → IsTrue b ↔ IsTupleFrom sets.items v → IsTrue b ↔ IsInDescribed (Product sets) v
unfolding IsInDescribed IsCross IsTupleFrom
in-product sets v b w h = in-set (λ z. (vs : List Value) × (z ≡ Tuple vs) × AreFrom vs sets.items) v b (there (Product sets) tt w) h

pub has-product : (d : Described) (sets : Vec Value Global) (v : Value) (b : Bool) → d ≡ Product sets → IsWithin d → IsTrue b ↔ IsTupleFrom sets.items v → IsTrue b ↔ IsInDescribed d v
has-product d sets v b e w h = subst (λ k. IsTrue b ↔ IsInDescribed k v) (sym e) (in-product sets v b (subst IsWithin e w) h)

-- of a value that is there
pub in-found : (found : Found) (v : Value) (b : Bool) (s : Value) → found_outcome found ≡ Is s → IsTrue b ↔ IsMember v (members s) → IsTrue b ↔ IsInDescribed (Plain found) v
unfolding IsInDescribed
in-found found v b s e h = (λ i. (s, sym e, h.0 i), λ p. h.1 (subst (λ w. IsMember v (members w)) (same (p.1 ∙ e)) p.2))
  where
    same : {x y : Value} → Is x ≡ Is y → x ≡ y
    same e = (cc)

never : IsTrue false → ⊥
never e = (cc)

-- what is no set has none
abbrev IsNoSet : Found → Type 0
IsNoSet (found.Is s) = ⊥
IsNoSet found.Undefined = Unit {0}
IsNoSet found.Out = Unit {0}

no-value : (found : Found) (w : Value) → IsNoSet found → Is w ≡ found_outcome found → ⊥
no-value (found.Is s) w n e = n
no-value found.Undefined w n e = (cc)
no-value found.Out w n e = (cc)

pub in-no-set : (found : Found) (v : Value) (other : Found) → found ≡ other → IsNoSet other → IsTrue false ↔ IsInDescribed (Plain found) v
unfolding IsInDescribed
in-no-set found v other e n = (λ i. absurd (never i), λ p. absurd (no-value found p.0 (subst IsNoSet (sym e) n) p.1))

-- ---- truths

-- of what is there
pub in-plain : (found : Found) (r : Relation) (x : Outcome) (t : Truth) → IsAtom x (found_outcome found) (Holds r) t → IsTruthIn (IsDescribed (Plain found)) r x t
unfolding IsTruthIn
in-plain found r x t h = (found_outcome found, refl, h)

pub out-in : (S : Outcome → Type 0) (r : Relation) (x : Outcome) → S Out → IsTruthIn S r x truth.Out
unfolding IsTruthIn
out-in S r (Is v) s = (Out, s, refl)
out-in S r Undefined s = (Out, s, refl)
out-in S r Out s = (Out, s, refl)

undefined-in : (S : Outcome → Type 0) (r : Relation) → IsThere S → IsTruthIn S r Undefined truth.False
unfolding IsTruthIn
undefined-in S r t = (Is t.0, t.1, refl)

lost-in : (S : Outcome → Type 0) (r : Relation) → IsThere S → IsTruthIn S r Out truth.Out
unfolding IsTruthIn
lost-in S r t = (Is t.0, t.1, refl)

-- b tells whether v is a member of a set of which S says what it is
abbrev TellsMember : (Outcome → Type 0) → Value → Bool → Type 0
TellsMember S v b = IsTrue b ↔ ((w : Value) × S (Is w) × IsMember v (members w))

value-in : (S : Outcome → Type 0) (r : Relation) (v : Value) (b : Bool) → IsTrue (is_membership r) → IsThere S → TellsMember S v b → IsTruthIn S r (Is v) (told_in r b)
unfolding IsTruthIn
value-in S relation.Member v true m t h = let p = h.0 refl in (Is p.0, p.1, p.2)
value-in S relation.Member v false m t h = (Is t.0, t.1, λ k. never (h.1 (t.0, t.1, k)))
value-in S relation.NotMember v true m t h = let p = h.0 refl in (Is p.0, p.1, λ k. k p.2)
value-in S relation.NotMember v false m t h = (Is t.0, t.1, λ k. never (h.1 (t.0, t.1, k)))
value-in S relation.Equal v b m t h = absurd (never m)
value-in S relation.NotEqual v b m t h = absurd (never m)
value-in S relation.Subset v b m t h = absurd (never m)
value-in S relation.ProperSubset v b m t h = absurd (never m)
value-in S relation.Less v b m t h = absurd (never m)
value-in S relation.AtMost v b m t h = absurd (never m)
value-in S relation.Greater v b m t h = absurd (never m)
value-in S relation.AtLeast v b m t h = absurd (never m)

-- a set that is not there as a value, and is not out
pub undefined-unbuilt : (d : Described) (r : Relation) → IsUnbuilt d → IsWithin d → IsTruthIn (IsDescribed d) r Undefined truth.False
undefined-unbuilt d r u h = undefined-in (IsDescribed d) r (there d u h)

pub lost-unbuilt : (d : Described) (r : Relation) → IsUnbuilt d → IsWithin d → IsTruthIn (IsDescribed d) r Out truth.Out
lost-unbuilt d r u h = lost-in (IsDescribed d) r (there d u h)

pub value-unbuilt : (d : Described) (r : Relation) (v : Value) (b : Bool) → IsTrue (is_membership r) → IsUnbuilt d → IsWithin d → IsTrue b ↔ IsInDescribed d v
    → IsTruthIn (IsDescribed d) r (Is v) (told_in r b)
unfolding IsInDescribed
value-unbuilt d r v b m u h k = value-in (IsDescribed d) r v b m (there d u h) k
