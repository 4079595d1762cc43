-- Where a component has none of the values that a quantifier equates it with, the quantifier is False.
use Rattle.zf_enum.proofs.Prelude.{◌≡◌, ⊎_elim, inl, inr, ℕ, ◌+◌, ◌≤◌, List, [], ◌∷◌, ◌++◌, length, get_or, Some, sym, ap, ◌∙◌, subst, arith, Contains, slice_get, Component, ResolvedTree, ResolvedPart, reference, number, constant, empty_set, bracket, listed, comprehension, unary, binary, chain, quantified, absent, present, Value, Outcome, Is, Undefined, Out, IsMember, members, members-SetOf, picked, AreWithin, length-picked, Leaves, Environment, value_or, in_row, HasOutcome, IsTruth, need, IsKept, AreCandidates, due, property, Context, within, outcome_in, IsThere, Equates, IsSpread, Function, Generic, Connective, Application, Image, AreFrom, Builds, IsBuilt, IsBuiltOver, IsConstraint, IsQuantified, IsTold, one_out, one_undefined, Several, values}
use Rattle.zf_tree.specs.declared.symbol.Connective.TheVariants as connective
use Rattle.zf_tree.specs.declared.symbol.Quantifier.{Quantifier}
use Rattle.zf_tree.specs.declared.symbol.Quantifier.TheVariants.{ForAll, Exists, ExistsOne}
use Rattle.zf_value.specs.declared.value.Truth.TheVariants as truth
use Rattle.zf_enum.specs.declared.candidates.Tie.TheVariants as tie
use Rattle.zf_enum.proofs.Dues.{due_need}
use Rattle.zf_enum.proofs.Fixed.{IsOther, false_in, side_need, truth_at, get_front, get_next}

-- ---- what the body says

equated_false : (c : Context) (p : ResolvedTree) (k : ℕ) (t : ResolvedTree) (v : Value) (o : Outcome) → Equates p k t → Is v ≡ outcome_in c (Component k)
    → HasOutcome c t o → IsOther o v → IsTruth c p truth.False
equated_false c (bracket l p) k t v o h at is other = equated_false c p k t v o h at is other
equated_false c (binary l (Connective connective.And) p q) k t v o (inl h) at is other = inl (equated_false c p k t v o h at is other)
equated_false c (binary l (Connective connective.And) p q) k t v o (inr h) at is other = inr (equated_false c q k t v o h at is other)
equated_false c (chain l a ks) k t v o h at is other = false_in c k (chain l a ks) t v o h at is other
equated_false c (binary l (Connective connective.Or) p q) k t v o h at is other = absurd h
equated_false c (binary l (Connective connective.Implies) p q) k t v o h at is other = absurd h
equated_false c (binary l (Connective connective.Iff) p q) k t v o h at is other = absurd h
equated_false c (binary l (Function f) p q) k t v o h at is other = absurd h
equated_false c (binary l (Generic f) p q) k t v o h at is other = absurd h
equated_false c (binary l Application p q) k t v o h at is other = absurd h
equated_false c (binary l Image p q) k t v o h at is other = absurd h
equated_false c (reference l r) k t v o h at is other = absurd h
equated_false c (number l n) k t v o h at is other = absurd h
equated_false c (constant l n) k t v o h at is other = absurd h
equated_false c (empty_set l p) k t v o h at is other = absurd h
equated_false c (listed l f ts) k t v o h at is other = absurd h
equated_false c (comprehension l rs p q) k t v o h at is other = absurd h
equated_false c (unary l op p) k t v o h at is other = absurd h
equated_false c (quantified l q rs p b) k t v o h at is other = absurd h

-- ---- what the quantifier says

module _ (c : Context) (body t : ResolvedTree) (k : ℕ) (v s : Value) (equates : Equates body k t) (at : Is v ≡ outcome_in c (Component k)) (apart : IsMember v (members s) → ⊥) where
  each_row : (R : List Value → Type 0) → IsBuiltOver R (λ vs u. IsConstraint (within c vs) absent u) (λ vs x. Builds (within c vs) vs (present t) x) (Is s)
      → (vs : List Value) → R vs → IsTruth (within c vs) body truth.False
  each_row R (bounds, is) vs r =
      ⊎_elim (λ no. let wrong : truth.False ≡ truth.True = no in absurd (cc))
      (λ yes.
      ⊎_elim (λ none. equated_false (within c vs) body k t v Undefined equates at none tt)
      (λ found. equated_false (within c vs) body k t v (Is found.0) equates at found.1
      (λ same. apart (subst (λ z. IsMember z (members s)) same (subst (λ xs. IsMember found.0 xs) (sym (ap members is.1 ∙ members-SetOf is.0)) ((is.4 found.0).1 (vs, r, yes.0, found.1))))))
      yes.1)
      (bounds vs r)

  not_over : (q : Quantifier) (p : ResolvedPart) (several : Several) → IsThere q → IsBuilt several (λ vs u. IsConstraint (within c vs) absent u) (λ vs x. Builds (within c vs) vs (present t) x) (Is s)
      → IsQuantified q several (λ vs w. IsTold q (λ a. IsConstraint (within c vs) p a) (λ b. IsTruth (within c vs) body b) w) truth.False
  not_over ForAll p several there built = absurd there
  not_over Exists p one_out there built = absurd (cc)
  not_over Exists p one_undefined there built = λ vs no. absurd no
  not_over Exists p (values ss) there built = λ vs r. inr (each_row (λ us. AreFrom us ss) built vs r)
  not_over ExistsOne p one_out there built = absurd (cc)
  not_over ExistsOne p one_undefined there built = inr (λ vs no. absurd no)
  not_over ExistsOne p (values ss) there built = inr (λ vs r. inr (each_row (λ us. AreFrom us ss) built vs r))

-- the set has a value, and the component another than its members
spread_apart : (c : Context) (p set : ResolvedTree) (k : ℕ) (v s : Value) → IsSpread p k set → Is v ≡ outcome_in c (Component k) → (IsMember v (members s) → ⊥)
    → HasOutcome c set (Is s) → IsTruth c p truth.False
spread_apart c (quantified l q rs part body) set k v s (t, (there, equates), (m, over)) at apart has =
    let built = subst (λ u. HasOutcome c u (Is s)) over has in
    (built.0, built.1, not_over c body t k v s equates at apart q part built.0 there built.2)
spread_apart c (reference l r) set k v s is at apart has = absurd is.1
spread_apart c (number l n) set k v s is at apart has = absurd is.1
spread_apart c (constant l n) set k v s is at apart has = absurd is.1
spread_apart c (empty_set l p) set k v s is at apart has = absurd is.1
spread_apart c (bracket l p) set k v s is at apart has = absurd is.1
spread_apart c (listed l f ts) set k v s is at apart has = absurd is.1
spread_apart c (comprehension l rs p q) set k v s is at apart has = absurd is.1
spread_apart c (unary l op p) set k v s is at apart has = absurd is.1
spread_apart c (binary l op p q) set k v s is at apart has = absurd is.1
spread_apart c (chain l p ks) set k v s is at apart has = absurd is.1

spread_false : (c : Context) (p set : ResolvedTree) (k : ℕ) (v : Value) (o : Outcome) (range : List Value) (left : List ℕ) (i : ℕ) → IsSpread p k set
    → Is v ≡ outcome_in c (Component k) → HasOutcome c set o → IsKept tie.Members o range left → slice_get range i ≡ Some v → (Contains left i → ⊥)
    → IsTruth c p truth.False
spread_false c p set k v (Is s) range left i is at has kept there out = spread_apart c p set k v s is at (λ m. out (kept v m i there)) has
spread_false c p set k v Undefined range left i is at has kept there out = absurd kept
spread_false c p set k v Out range left i is at has kept there out = absurd kept

-- the set leaves its members
pub members_left : (e : Environment) (ts : List ResolvedTree) (c k : ℕ) (p set : ResolvedTree) (ranges : List (List Value)) (places left : List ℕ)
    → slice_get ts c ≡ Some p → k ≡ length places → IsSpread p k set → AreWithin ranges places
    → AreCandidates tie.Members e set ranges (picked ranges places) (get_or ranges (length places) []) left → Leaves (property e ts) c ranges places left
members_left e ts c k p set ranges places left at next is within candidates i v more there out rows =
    let front = picked ranges places in
    let row = front ++ v ∷ more in
    let r = candidates row rows (λ k l u. get_front front (v ∷ more) k l) in
    truth_at e row ts c p at (spread_false (in_row e row) p set k v r.0 (get_or ranges (length places) []) left i is
    (sym (ap value_or (get_next front more v k (next ∙ sym (length-picked ranges places within))))) r.1 r.2 there out)

-- ---- how many components it needs

equated_need : (m k : ℕ) (p t : ResolvedTree) → Equates p k t → need m t ≤ need m p
equated_need m k (bracket l p) t h = equated_need m k p t h
equated_need m k (binary l (Connective connective.And) p q) t (inl h) = omega (arith, equated_need m k p t h)
equated_need m k (binary l (Connective connective.And) p q) t (inr h) = omega (arith, equated_need m k q t h)
equated_need m k (chain l a ks) t h = side_need m k (chain l a ks) t h
equated_need m k (binary l (Connective connective.Or) p q) t h = absurd h
equated_need m k (binary l (Connective connective.Implies) p q) t h = absurd h
equated_need m k (binary l (Connective connective.Iff) p q) t h = absurd h
equated_need m k (binary l (Function f) p q) t h = absurd h
equated_need m k (binary l (Generic f) p q) t h = absurd h
equated_need m k (binary l Application p q) t h = absurd h
equated_need m k (binary l Image p q) t h = absurd h
equated_need m k (reference l r) t h = absurd h
equated_need m k (number l n) t h = absurd h
equated_need m k (constant l n) t h = absurd h
equated_need m k (empty_set l p) t h = absurd h
equated_need m k (listed l f ts) t h = absurd h
equated_need m k (comprehension l rs p q) t h = absurd h
equated_need m k (unary l op p) t h = absurd h
equated_need m k (quantified l q rs p b) t h = absurd h

spread_need : (m k : ℕ) (p set : ResolvedTree) → IsSpread p k set → need m set ≤ need m p
spread_need m k (quantified l q rs part body) set (t, (there, equates), (n, over)) =
    let inner : need m set ≡ need m (comprehension n rs absent (present t)) = ap (need m) over in
    omega (arith, inner, equated_need m k body t equates)
spread_need m k (reference l r) set is = absurd is.1
spread_need m k (number l n) set is = absurd is.1
spread_need m k (constant l n) set is = absurd is.1
spread_need m k (empty_set l p) set is = absurd is.1
spread_need m k (bracket l p) set is = absurd is.1
spread_need m k (listed l f ts) set is = absurd is.1
spread_need m k (comprehension l rs p q) set is = absurd is.1
spread_need m k (unary l op p) set is = absurd is.1
spread_need m k (binary l op p q) set is = absurd is.1
spread_need m k (chain l p ks) set is = absurd is.1

-- the set needs no more components than the predicate
pub spread_due : (k : ℕ) (p set : ResolvedTree) → IsSpread p k set → due set ≤ due p
spread_due k p set is =
    let m = due p + due set in
    let one = due_need m set (omega arith) in
    let other = due_need m p (omega arith) in
    omega (arith, one, other, spread_need m k p set is)
