-- What each symbol makes of values of the types that it takes is a value of the type that it gives.
use Rattle.law_sound.proofs.Prelude.{◌∙◌, ◌≡◌, ◌⊎◌, ap, arith, List, Some, subst, sym, ℕ, ℤ, ⊎_elim, ints, w64, number_of-Int, number_of, OnNumber, OnNumbers, IsBetweenNumbers, IsDifference, IsInterval, IsModulus, IsNegation, IsProduct, IsQuotient, IsSum, IsInDomain, IsInRange, IsPairOf, Relates, IsApplied, IsComposition, IsDomain, IsDomainRestriction, IsDomainSubtraction, IsImage, IsIntersection, IsInverse, IsOverriding, IsRange, IsRangeRestriction, IsRangeSubtraction, IsSetDifference, IsSize, IsUnion, IsMember, IsSetOf, members, Outcome, Is, Value, function_rule, rule_of, Operator, Unary, int, pair_type, power, Ty, a_schema, number_sort, predicate, PrefixTakes, relation_sort, set_sort, Sort, Takes, typed, UnaryTakes, Environment, IsOfType, BinaryOutcome, InfixOutcome, PrefixOutcome, UnaryOutcome, refl, FitsSigned, Infinite, IsNumberSet, Nat, Nat1, None, Num, Option, Out, SET_MAX, cases_lt, least, negsuc, pos, suc, zero, ◌+ℤ◌, ◌<◌, ◌≤ℤ◌, ◌≤◌}
use Rattle.zf_value.proofs.Intervals.{interval_out}
use Rattle.zf_value.proofs.Once.{one_Interval}
use Rattle.zf_tree.specs.declared.symbol.Infix.{Infix}
use Rattle.zf_tree.specs.declared.symbol.Infix.TheVariants.{Maplet, UpTo, Plus, Minus, Union, Difference, Times, Div, Mod, Intersection, Composition, Overriding, DomainRestriction, RangeRestriction, DomainSubtraction, RangeSubtraction}
use Rattle.zf_tree.specs.declared.symbol.Prefix.{Prefix}
use Rattle.zf_tree.specs.declared.symbol.Prefix.TheVariants as prefix
use Rattle.zf_tree.specs.declared.operator.Sign.TheVariants as sign
use Rattle.zf_tree.specs.declared.operator.Operator.TheVariants as operator
use Rattle.zf_tree.specs.declared.operator.Unary.TheVariants as unary
use Rattle.zf_value.specs.Operations as op
use Rattle.law_sound.proofs.OfTypes.{AreMembers, members_of, a_set, a_number, a_pair, is_value, never_undefined, related}
use Rattle.law_sound.proofs.Relations.{a_power, an_arrow}

-- a value of the type, where the term is an expression
abbrev pub IsOfSort : Environment → Sort → Value → Type 0
IsOfSort e (typed t) v = IsOfType e t v
IsOfSort e predicate v = Unit {0}
IsOfSort e a_schema v = Unit {0}

-- ---- numbers

at_most_fits : (n : ℕ) (b : ℤ) → FitsSigned w64 b → pos n ≤ℤ b → FitsSigned w64 (pos n)
at_most_fits n (pos m) f l = record { sfits = omega (arith, ints, f.sfits, l) }
at_most_fits n (negsuc m) f l = absurd (omega (arith, ints, l))

at_least_fits : (n : ℕ) (a : ℤ) → FitsSigned w64 a → a ≤ℤ negsuc n → FitsSigned w64 (negsuc n)
at_least_fits n (pos m) f l = absurd (omega (arith, ints, l))
at_least_fits n (negsuc m) f l = record { sfits = omega (arith, ints, f.sfits, l) }

pub between_fits : (a n b : ℤ) → FitsSigned w64 a → FitsSigned w64 b → a ≤ℤ n → n ≤ℤ b → FitsSigned w64 n
between_fits a (pos n) b f g l m = at_most_fits n b g m
between_fits a (negsuc n) b f g l m = at_least_fits n a f l

-- ---- sets of numbers

wide : (s : Infinite) (n : ℕ) → SET_MAX < n → (least s n +ℤ pos SET_MAX) ≤ℤ pos n
wide Num zero l = absurd (omega (arith, l))
wide _ _ l = omega (arith, ints, l)

-- where the set of all up to a greatest number is there, this is not greater than such a set may have members
greatest_small : (s : Infinite) (n : ℕ) (v : Value) → IsInterval (least s n) (pos n) (Is v) → n ≤ SET_MAX
greatest_small s n v h =
    ⊎_elim (λ l. let same : Is v ≡ Out = one_Interval (least s n) (pos n) (Is v) Out h (interval_out (least s n) (pos n) (wide s n l)) in absurd (cc)) (λ l. l) (cases_lt SET_MAX n)

greatest_fits : (n : ℕ) → n ≤ SET_MAX → FitsSigned w64 (pos n)
greatest_fits n l = let most : SET_MAX ≡ 65536 = refl in record { sfits = omega (arith, l, most) }

least_fits : (s : Infinite) (n : ℕ) → n ≤ SET_MAX → FitsSigned w64 (least s n)
least_fits Num zero l = greatest_fits 0 (omega arith)
least_fits Num (suc k) l = let most : SET_MAX ≡ 65536 = refl in record { sfits = omega (arith, l, most) }
least_fits Nat n l = greatest_fits 0 (omega arith)
least_fits Nat1 n l = record { sfits = omega arith }

module _ (e : Environment) where
  -- an operation on two numbers that makes a number
  abbrev MakesNumbers : (ℤ → ℤ → Outcome → Type 0) → Type 0
  MakesNumbers P = (m n : ℤ) (v : Value) → P m n (Is v) → IsOfType e int v

  on_number : (o : Option ℤ) (P : ℤ → Outcome → Type 0) (v : Value) → ((m : ℤ) → P m (Is v) → IsOfType e int v) → OnNumber o P (Is v) → IsOfType e int v
  on_number None P v f h = absurd (cc)
  on_number (Some m) P v f h = f m h

  on_numbers : (o q : Option ℤ) (P : ℤ → ℤ → Outcome → Type 0) (v : Value) → MakesNumbers P → OnNumbers o q P (Is v) → IsOfType e int v
  on_numbers None q P v f h = absurd (cc)
  on_numbers (Some m) None P v f h = absurd (cc)
  on_numbers (Some m) (Some n) P v f h = f m n v h

  a_quotient : MakesNumbers IsQuotient
  unfolding IsQuotient
  a_quotient m n v h = ⊎_elim (λ p. never_undefined v p.1) (λ p. a_number e p.0 v p.3) h

  a_modulus : MakesNumbers IsModulus
  unfolding IsModulus
  a_modulus m n v h = ⊎_elim (λ p. never_undefined v p.1) (λ p. a_number e p.1 v p.3) h

  between_numbers : (m n : ℤ) (z : Value) → FitsSigned w64 m → FitsSigned w64 n → IsBetweenNumbers m n z → IsOfType e int z
  unfolding IsBetweenNumbers
  between_numbers m n z f g h = (h.0, h.1, between_fits m h.0 n f g h.2 h.3)

  interval_of : (m n : ℤ) (v : Value) → FitsSigned w64 m → FitsSigned w64 n → IsInterval m n (Is v) → IsOfType e (power int) v
  unfolding IsInterval
  interval_of m n v f g h = a_set e int (IsBetweenNumbers m n) v h (λ z p. between_numbers m n z f g p)

  pub number_set : (n : Option ℕ) (s : Infinite) (v : Value) → IsNumberSet n s (Is v) → IsOfType e (power int) v
  number_set None s v h = absurd (cc)
  number_set (Some n) s v h = let l = greatest_small s n v h in interval_of (least s n) (pos n) v (least_fits s n l) (greatest_fits n l) h

  an_interval : (x y v : Value) → IsOfType e int x → IsOfType e int y → OnNumbers (number_of x) (number_of y) IsInterval (Is v) → IsOfType e (power int) v
  an_interval x y v h k p =
      let left = ap number_of h.1 ∙ number_of-Int h.0 in
      let right = ap number_of k.1 ∙ number_of-Int k.0 in
      interval_of h.0 k.0 v h.2 k.2 (subst (λ o. OnNumbers (Some h.0) o IsInterval (Is v)) right (subst (λ o. OnNumbers o (number_of y) IsInterval (Is v)) left p))

  -- ---- sets

  a_union : (t : Ty) (a b : List Value) (v : Value) → AreMembers e t a → AreMembers e t b → IsUnion a b (Is v) → IsOfType e (power t) v
  unfolding IsUnion
  a_union t a b v h k p = a_set e t (λ z. IsMember z a ⊎ IsMember z b) v p (λ z q. ⊎_elim (λ m. h.each z m) (λ m. k.each z m) q)

  an_intersection : (t : Ty) (a b : List Value) (v : Value) → AreMembers e t a → IsIntersection a b (Is v) → IsOfType e (power t) v
  unfolding IsIntersection
  an_intersection t a b v h p = a_set e t (λ z. IsMember z a × IsMember z b) v p (λ z q. h.each z q.0)

  a_set_difference : (t : Ty) (a b : List Value) (v : Value) → AreMembers e t a → IsSetDifference a b (Is v) → IsOfType e (power t) v
  unfolding IsSetDifference
  a_set_difference t a b v h p = a_set e t (λ z. IsMember z a × (IsMember z b → ⊥)) v p (λ z q. h.each z q.0)

  -- ---- relations

  a_domain : (t u : Ty) (r : List Value) (v : Value) → AreMembers e (pair_type t u) r → IsDomain r (Is v) → IsOfType e (power t) v
  unfolding IsDomain
  a_domain t u r v h p = a_set e t (IsInDomain r) v p (λ x q. (related e t u r x q.0 h q.1).0)

  a_range : (t u : Ty) (r : List Value) (v : Value) → AreMembers e (pair_type t u) r → IsRange r (Is v) → IsOfType e (power u) v
  unfolding IsRange
  a_range t u r v h p = a_set e u (IsInRange r) v p (λ y q. (related e t u r q.0 y h q.1).1)

  an_inverse : (t u : Ty) (r : List Value) (v : Value) → AreMembers e (pair_type t u) r → IsInverse r (Is v) → IsOfType e (power (pair_type u t)) v
  unfolding IsInverse
  an_inverse t u r v h p =
      a_set e (pair_type u t) (λ z. (x y : Value) × (z ≡ op.pair y x) × Relates r x y) v p
      (λ z q. let k = related e t u r q.0 q.1 h q.3 in subst (IsOfType e (pair_type u t)) (sym q.2) (a_pair e u t q.1 q.0 k.1 k.0))

  an_image : (t u : Ty) (r a : List Value) (v : Value) → AreMembers e (pair_type t u) r → IsImage r a (Is v) → IsOfType e (power u) v
  unfolding IsImage
  an_image t u r a v h p = a_set e u (λ y. (x : Value) × IsMember x a × Relates r x y) v p (λ y q. (related e t u r q.0 y h q.2).1)

  a_composition : (t u w : Ty) (r q : List Value) (v : Value) → AreMembers e (pair_type t u) r → AreMembers e (pair_type u w) q → IsComposition r q (Is v) → IsOfType e (power (pair_type t w)) v
  unfolding IsComposition
  a_composition t u w r q v h k p =
      a_set e (pair_type t w) (λ z. (x y s : Value) × (z ≡ op.pair x s) × Relates r x y × Relates q y s) v p
      (λ z f. subst (IsOfType e (pair_type t w)) (sym f.3) (a_pair e t w f.0 f.2 (related e t u r f.0 f.1 h f.4).0 (related e u w q f.1 f.2 k f.5).1))

  pair_of : (t u : Ty) (r : List Value) (P : Value → Value → Type 0) (z : Value) → AreMembers e (pair_type t u) r → IsPairOf r P z → IsOfType e (pair_type t u) z
  pair_of t u r P z h p = subst (IsOfType e (pair_type t u)) (sym p.2) (h.each (op.pair p.0 p.1) p.3)

  an_overriding : (t u : Ty) (r q : List Value) (v : Value) → AreMembers e (pair_type t u) r → AreMembers e (pair_type t u) q → IsOverriding r q (Is v) → IsOfType e (power (pair_type t u)) v
  unfolding IsOverriding
  an_overriding t u r q v h k p =
      a_set e (pair_type t u) (λ z. IsMember z q ⊎ IsPairOf r (λ x y. IsInDomain q x → ⊥) z) v p (λ z f. ⊎_elim (λ m. k.each z m) (λ g. pair_of t u r (λ x y. IsInDomain q x → ⊥) z h g) f)

  pairs_of : (t u : Ty) (r : List Value) (P : Value → Value → Type 0) (v : Value) → AreMembers e (pair_type t u) r → IsSetOf (IsPairOf r P) (Is v) → IsOfType e (power (pair_type t u)) v
  pairs_of t u r P v h p = a_set e (pair_type t u) (IsPairOf r P) v p (λ z q. pair_of t u r P z h q)

  applied : (t u : Ty) (r : List Value) (x v : Value) → AreMembers e (pair_type t u) r → IsApplied r x (Is v) → IsOfType e u v
  unfolding IsApplied
  applied t u r x v h p = (related e t u r x v h p.0).1

  -- ---- by their rules

  pub sorted : (z y : Sort) (v : Value) → z ≡ y → IsOfSort e z v → IsOfSort e y v
  sorted z y v q h = subst (λ s. IsOfSort e s v) q h

  listed : (z : Sort) (t : Ty) (v : Value) → z ≡ set_sort t → IsOfSort e z v → AreMembers e t (members v)
  listed z t v q h = members_of e t v (sorted z (set_sort t) v q h)

  pub infixed : (op : Infix) (x y z : Sort) (a b v : Value) → Takes (function_rule op) x y z → IsOfSort e x a → IsOfSort e y b → InfixOutcome op a b (Is v) → IsOfSort e z v
  unfolding IsSum IsDifference IsProduct IsDomainRestriction IsDomainSubtraction IsRangeRestriction IsRangeSubtraction
  infixed Maplet x y z a b v k h g p = sorted (typed (pair_type k.0 k.1)) z v (sym k.4)
      (subst (IsOfType e (pair_type k.0 k.1)) (sym (is_value v (op.pair a b) p))
      (a_pair e k.0 k.1 a b (sorted x (typed k.0) a k.2 h) (sorted y (typed k.1) b k.3 g)))
  infixed UpTo x y z a b v k h g p = sorted (set_sort int) z v (sym k.2) (an_interval a b v (sorted x number_sort a k.0 h) (sorted y number_sort b k.1 g) p)
  infixed Plus x y z a b v k h g p = sorted number_sort z v (sym k.2) (on_numbers (number_of a) (number_of b) IsSum v (λ m n w q. a_number e _ w q) p)
  infixed Minus x y z a b v k h g p = sorted number_sort z v (sym k.2) (on_numbers (number_of a) (number_of b) IsDifference v (λ m n w q. a_number e _ w q) p)
  infixed Times x y z a b v k h g p = sorted number_sort z v (sym k.2) (on_numbers (number_of a) (number_of b) IsProduct v (λ m n w q. a_number e _ w q) p)
  infixed Div x y z a b v k h g p = sorted number_sort z v (sym k.2) (on_numbers (number_of a) (number_of b) IsQuotient v a_quotient p)
  infixed Mod x y z a b v k h g p = sorted number_sort z v (sym k.2) (on_numbers (number_of a) (number_of b) IsModulus v a_modulus p)
  infixed Union x y z a b v k h g p = sorted (set_sort k.0) z v (sym k.3) (a_union k.0 (members a) (members b) v (listed x k.0 a k.1 h) (listed y k.0 b k.2 g) p)
  infixed Intersection x y z a b v k h g p = sorted (set_sort k.0) z v (sym k.3) (an_intersection k.0 (members a) (members b) v (listed x k.0 a k.1 h) p)
  infixed Difference x y z a b v k h g p = sorted (set_sort k.0) z v (sym k.3) (a_set_difference k.0 (members a) (members b) v (listed x k.0 a k.1 h) p)
  infixed Composition x y z a b v k h g p =
      sorted (relation_sort k.0 k.2) z v (sym k.5) (a_composition k.0 k.1 k.2 (members a) (members b) v (listed x (pair_type k.0 k.1) a k.3 h) (listed y (pair_type k.1 k.2) b k.4 g) p)
  infixed Overriding x y z a b v k h g p = sorted (relation_sort k.0 k.1) z v (sym k.4)
      (an_overriding k.0 k.1 (members a) (members b) v (listed x (pair_type k.0 k.1) a k.2 h) (listed y (pair_type k.0 k.1) b k.3 g) p)
  infixed DomainRestriction x y z a b v k h g p =
      sorted (relation_sort k.0 k.1) z v (sym k.4) (pairs_of k.0 k.1 (members b) (λ u w. IsMember u (members a)) v (listed y (pair_type k.0 k.1) b k.3 g) p)
  infixed DomainSubtraction x y z a b v k h g p =
      sorted (relation_sort k.0 k.1) z v (sym k.4) (pairs_of k.0 k.1 (members b) (λ u w. IsMember u (members a) → ⊥) v (listed y (pair_type k.0 k.1) b k.3 g) p)
  infixed RangeRestriction x y z a b v k h g p =
      sorted (relation_sort k.0 k.1) z v (sym k.4) (pairs_of k.0 k.1 (members a) (λ u w. IsMember w (members b)) v (listed x (pair_type k.0 k.1) a k.2 h) p)
  infixed RangeSubtraction x y z a b v k h g p =
      sorted (relation_sort k.0 k.1) z v (sym k.4) (pairs_of k.0 k.1 (members a) (λ u w. IsMember w (members b) → ⊥) v (listed x (pair_type k.0 k.1) a k.2 h) p)

  pub binary : (op : Operator) (x y z : Sort) (a b v : Value) → Takes (rule_of op) x y z → IsOfSort e x a → IsOfSort e y b → BinaryOutcome op a b (Is v) → IsOfSort e z v
  binary (operator.Function f) x y z a b v k h g p = infixed f x y z a b v k h g p
  binary (operator.Generic f) x y z a b v k h g p = sorted (set_sort (power (pair_type k.0 k.1))) z v (sym k.4) (an_arrow e k.0 k.1 f a b v (listed x k.0 a k.2 h) (listed y k.1 b k.3 g) p)
  binary (operator.Connective f) x y z a b v k h g p = never_undefined v p
  binary operator.Application x y z a b v k h g p = sorted (typed k.1) z v (sym k.4) (applied k.0 k.1 (members a) b v (listed x (pair_type k.0 k.1) a k.2 h) p)
  binary operator.Image x y z a b v k h g p = sorted (set_sort k.1) z v (sym k.4) (an_image k.0 k.1 (members a) (members b) v (listed x (pair_type k.0 k.1) a k.2 h) p)

  prefixed : (op : Prefix) (x z : Sort) (a v : Value) → PrefixTakes op x z → IsOfSort e x a → PrefixOutcome op a (Is v) → IsOfSort e z v
  unfolding IsSize
  prefixed prefix.Power x z a v k h p = sorted (set_sort (power k.0)) z v (sym k.2) (a_power e k.0 (members a) v (listed x k.0 a k.1 h) p)
  prefixed prefix.Finset x z a v k h p = sorted (set_sort (power k.0)) z v (sym k.2) (a_power e k.0 (members a) v (listed x k.0 a k.1 h) p)
  prefixed prefix.Size x z a v k h p = sorted number_sort z v (sym k.2) (a_number e _ v p)
  prefixed prefix.Domain x z a v k h p = sorted (set_sort k.0) z v (sym k.3) (a_domain k.0 k.1 (members a) v (listed x (pair_type k.0 k.1) a k.2 h) p)
  prefixed prefix.Range x z a v k h p = sorted (set_sort k.1) z v (sym k.3) (a_range k.0 k.1 (members a) v (listed x (pair_type k.0 k.1) a k.2 h) p)

  pub unary_made : (op : Unary) (x z : Sort) (a v : Value) → UnaryTakes op x z → IsOfSort e x a → UnaryOutcome op a (Is v) → IsOfSort e z v
  unfolding IsNegation
  unary_made (unary.Sign sign.Minus) x z a v k h p = sorted number_sort z v (sym k.1) (on_number (number_of a) IsNegation v (λ m q. a_number e _ v q) p)
  unary_made (unary.Sign (sign.Symbol f)) x z a v k h p = prefixed f x z a v k h p
  unary_made unary.Inverse x z a v k h p = sorted (relation_sort k.1 k.0) z v (sym k.3) (an_inverse k.0 k.1 (members a) v (listed x (pair_type k.0 k.1) a k.2 h) p)
  unary_made unary.Not x z a v k h p = never_undefined v p
