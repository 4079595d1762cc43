-- Sets of relations, functions and subsets are sets of sets of the type.
use Rattle.law_sound.proofs.Prelude.{◌∙◌, ◌∷◌, ◌≡◌, ◌≤◌, [], ap, arith, length, List, refl, subst, sym, ⊎_elim, every_from, members-SetOf, IsBetween, IsFunctional, IsInjective, IsRelationThat, IsSubset, IsTotal, AreArrows, IsArrow, IsPower, IsAscending, IsMember, IsSetOf, members, AreAmong, SET_MAX, Is, SetOf, Value, pair_type, power, Ty, Environment, IsOfType}
use Rattle.zf_tree.specs.declared.symbol.Arrow.{Arrow}
use Rattle.zf_tree.specs.declared.symbol.Arrow.TheVariants as arrow
use Rattle.zf_value.specs.Operations as op
use Rattle.zf_value.proofs.Once as once
use Rattle.law_sound.proofs.Injected.{no_longer}
use Rattle.law_sound.proofs.OfTypes.{AreMembers, a_set, a_pair}

-- ---- subsets

listed_among : (xs a : List Value) → AreAmong xs a → (z : Value) → IsMember z xs → IsMember z a
unfolding AreAmong
listed_among xs a h = h

a_subset : (e : Environment) (t : Ty) (a : List Value) (z : Value) → AreMembers e t a → IsSubset a z → IsOfType e (power t) z
a_subset e t a z h p =
    let inside = listed_among p.0 a p.3 in
    let few = once.no_longer a p.0 h.ascending p.2 inside in
    (p.0, p.1, p.2, omega (arith, few, h.few), every_from (λ x. IsOfType e t x) p.0 (λ x m. h.each x (inside x m)))

pub a_power : (e : Environment) (t : Ty) (a : List Value) (v : Value) → AreMembers e t a → IsPower a (Is v) → IsOfType e (power (power t)) v
unfolding IsPower
a_power e t a v h p = a_set e (power t) (IsSubset a) v p (λ z q. a_subset e t a z h q)

-- ---- relations

same_members : (xs ys : List Value) → SetOf xs ≡ SetOf ys → xs ≡ ys
same_members xs ys e = sym (members-SetOf xs) ∙ ap members e ∙ members-SetOf ys

one_item : (x y : Value) → x ∷ [] ≡ y ∷ [] → x ≡ y
one_item x y e = cc

module _ (e : Environment) (t u : Ty) (a b : List Value) (left : AreMembers e t a) (right : AreMembers e u b) where
  between : (r : List Value) (z : Value) → IsBetween a b r → IsMember z r → IsOfType e (pair_type t u) z
  between r z h m = let p = h z m in subst (IsOfType e (pair_type t u)) (sym p.2) (a_pair e t u p.0 p.1 (left.each p.0 p.3) (right.each p.1 p.4))

  a_relation : (P : List Value → Type 0) (z : Value) → ((r : List Value) → IsAscending r → IsBetween a b r → P r → length r ≤ SET_MAX) → IsRelationThat P a b z → IsOfType e (power (pair_type t u)) z
  a_relation P z few p = (p.0, p.1, p.2, few p.0 p.2 p.3 p.4, every_from (λ x. IsOfType e (pair_type t u) x) p.0 (λ x m. between p.0 x p.3 m))

  -- a function has no more pairs than there are members that it goes from
  few_of_function : (r : List Value) → IsAscending r → IsBetween a b r → IsFunctional r → length r ≤ SET_MAX
  few_of_function r h k f =
      let G : Value → Value → Type 0 = λ z x. IsMember z r × ((y : Value) × (z ≡ op.pair x y)) in
      let l = no_longer G r a h
      (λ z m. let p = k z m in (p.0, p.3, (m, (p.1, p.2))))
      (λ z w x p q. p.1.1 ∙ ap (op.pair x) (f x p.1.0 q.1.0 (subst (λ s. IsMember s r) p.1.1 p.0) (subst (λ s. IsMember s r) q.1.1 q.0)) ∙ sym q.1.1) in
      omega (arith, l, left.few)

  -- each pair of a relation makes a relation of its own
  few_of_relation : (all : List Value) (r : List Value) → length all ≤ SET_MAX → ((z : Value) → IsRelationThat (λ s. Unit {0}) a b z → IsMember z all)
      → IsAscending r → IsBetween a b r → length r ≤ SET_MAX
  few_of_relation all r few has h k =
      let l = no_longer (λ z s. s ≡ SetOf (z ∷ [])) r all h
      (λ z m. (SetOf (z ∷ []), has (SetOf (z ∷ [])) (z ∷ [], refl, (tt, tt), (λ w n. ⊎_elim (λ q. k w (subst (λ x. IsMember x r) q m)) (λ q. absurd q) n), tt), refl))
      (λ z w s p q. one_item z w (same_members (z ∷ []) (w ∷ []) (sym p ∙ q))) in
      omega (arith, l, few)

  functions : (P : List Value → Type 0) (v : Value) → ((r : List Value) → P r → IsFunctional r) → IsSetOf (IsRelationThat P a b) (Is v) → IsOfType e (power (power (pair_type t u))) v
  functions P v f h = a_set e (power (pair_type t u)) (IsRelationThat P a b) v h (λ z p. a_relation P z (λ r asc k q. few_of_function r asc k (f r q)) p)

  relations : (v : Value) → IsSetOf (IsRelationThat (λ s. Unit {0}) a b) (Is v) → IsOfType e (power (power (pair_type t u))) v
  relations v h = a_set e (power (pair_type t u)) (IsRelationThat (λ s. Unit {0}) a b) v h (λ z p. a_relation (λ s. Unit {0}) z (λ r asc k q. few_of_relation h.0 r h.3 (λ w s. (h.4 w).1 s) asc k) p)

pub an_arrow : (e : Environment) (t u : Ty) (op : Arrow) (x y v : Value) → AreMembers e t (members x) → AreMembers e u (members y) → AreArrows op (members x) (members y) (Is v)
    → IsOfType e (power (power (pair_type t u))) v
unfolding AreArrows IsArrow
an_arrow e t u arrow.Relation x y v h k p = relations e t u (members x) (members y) h k v p
an_arrow e t u arrow.PartialFunction x y v h k p = functions e t u (members x) (members y) h k IsFunctional v (λ r q. q) p
an_arrow e t u arrow.TotalFunction x y v h k p = functions e t u (members x) (members y) h k (λ r. IsFunctional r × IsTotal (members x) r) v (λ r q. q.0) p
an_arrow e t u arrow.PartialInjection x y v h k p = functions e t u (members x) (members y) h k (λ r. IsFunctional r × IsInjective r) v (λ r q. q.0) p
an_arrow e t u arrow.TotalInjection x y v h k p = functions e t u (members x) (members y) h k (λ r. IsFunctional r × IsInjective r × IsTotal (members x) r) v (λ r q. q.0) p
