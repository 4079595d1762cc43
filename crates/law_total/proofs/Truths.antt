-- Atoms, connectives and quantifiers have a truth.
use Rattle.law_total.proofs.Prelude.{◌∙◌, ◌≡◌, ◌⊎◌, inl, inr, List, None, Option, refl, Some, subst, sym, ℤ, ⊎_elim, ◌<ℤ◌, ◌≤ℤ◌, pos, same_number, AreFrom, members, Outcome, Truth, Int, Value, IsLink, one_out, one_undefined, Several, values, Compares, Holds, HoldsOf, IsIn, HasTwo, IsAtom, IsConjunction, IsConnected, IsExists, IsExistsOne, IsForAll, IsOver, IsQuantified, IsTest, IsTold, opposite, Tells, Connective, Infinite, Num, Nat, Nat1, conjunction, connected, connective_of, conjoined, twice, connected-told, told-by}
use Rattle.zf_tree.specs.declared.symbol.Quantifier.{Quantifier}
use Rattle.zf_tree.specs.declared.symbol.Quantifier.TheVariants as quantifier
use Rattle.zf_tree.specs.declared.symbol.Relation.{Relation}
use Rattle.zf_tree.specs.declared.symbol.Relation.TheVariants as relation
use Rattle.zf_value.specs.declared.value.Outcome.TheVariants as outcome
use Rattle.zf_value.specs.declared.value.Truth.TheVariants.{True, False, Out}
use Rattle.law_total.proofs.Listed.{HasSome, Decided, decided_both, decided_not, decided_same, decided_some, one_or_all, swapped, Listed, listed_none, listed_pairs}
use Rattle.law_total.proofs.Numbers.{decided_below, decided_at_most, number_or_not}
use Rattle.law_total.proofs.Values.{same_value, same_row, decided_member, decided_among, listed_rows}

-- ---- relations

decided_compares : (P : ℤ → ℤ → Type 0) → ((m n : ℤ) → Decided (P m n)) → (v w : Value) → Decided (Compares P v w)
decided_compares P d v w = elim (number_or_not v) [
  | inl a ↦ elim (number_or_not w) [
    | inl b ↦
        decided_same (λ p. (a.0, b.0, a.1, b.1, p)) (λ h. subst (λ m. P m b.0) (same_number h.0 a.0 (sym h.2 ∙ a.1)) (subst (λ n. P h.0 n) (same_number h.1 b.0 (sym h.3 ∙ b.1)) h.4)) (d a.0 b.0)
    | inr n ↦ inr (λ h. n (h.1, h.3))
  ]
  | inr n ↦ inr (λ h. n (h.0, h.2))
]

decided_holds : (r : Relation) (v w : Value) → Decided (Holds r v w)
decided_holds relation.Equal v w = same_value v w
decided_holds relation.NotEqual v w = decided_not (same_value v w)
decided_holds relation.Member v w = decided_member v (members w)
decided_holds relation.NotMember v w = decided_not (decided_member v (members w))
decided_holds relation.Subset v w = decided_among (members v) (members w)
decided_holds relation.ProperSubset v w = decided_both (decided_among (members v) (members w)) (decided_not (decided_among (members w) (members v)))
decided_holds relation.Less v w = decided_compares (λ m n. m <ℤ n) (λ m n. decided_below m n) v w
decided_holds relation.AtMost v w = decided_compares (λ m n. m ≤ℤ n) (λ m n. decided_at_most m n) v w
decided_holds relation.Greater v w = decided_compares (λ m n. n <ℤ m) (λ m n. decided_below n m) v w
decided_holds relation.AtLeast v w = decided_compares (λ m n. n ≤ℤ m) (λ m n. decided_at_most n m) v w

decided_number_from : (low : ℤ) (v : Value) → Decided ((n : ℤ) × (v ≡ Int n) × (low ≤ℤ n))
decided_number_from low v = elim (number_or_not v) [
  | inl a ↦ decided_same (λ l. (a.0, a.1, l)) (λ h. subst (λ n. low ≤ℤ n) (same_number h.0 a.0 (sym h.1 ∙ a.1)) h.2) (decided_at_most low a.0)
  | inr n ↦ inr (λ h. n (h.0, h.1))
]

pub decided_is_in : (s : Infinite) (v : Value) → Decided (IsIn s v)
decided_is_in Num v = number_or_not v
decided_is_in Nat v = decided_number_from (pos 0) v
decided_is_in Nat1 v = decided_number_from (pos 1) v

decided_holds_of : (s : Infinite) (r : Relation) (v : Value) → Decided (HoldsOf s r v)
decided_holds_of s relation.Member v = decided_is_in s v
decided_holds_of s relation.NotMember v = decided_not (decided_is_in s v)
decided_holds_of s r v = inr (λ h. h)

-- ---- atoms

some_told : (P : Type 0) → Decided P → HasSome (Tells P)
some_told P (inl p) = (True, p)
some_told P (inr n) = (False, n)

some_atom : (x y : Outcome) (P : Value → Value → Type 0) → ((v w : Value) → Decided (P v w)) → HasSome (IsAtom x y P)
some_atom outcome.Out y P d = (Out, refl)
some_atom x outcome.Out P d = (Out, refl)
some_atom (outcome.Is v) (outcome.Is w) P d = some_told (P v w) (d v w)
some_atom x y P d = (False, refl)

some_test : (x : Outcome) (P : Value → Type 0) → ((v : Value) → Decided (P v)) → HasSome (IsTest x P)
some_test outcome.Out P d = (Out, refl)
some_test outcome.Undefined P d = (False, refl)
some_test (outcome.Is v) P d = some_told (P v) (d v)

pub some_link : (s : Option Infinite) (r : Relation) (x y : Outcome) → HasSome (IsLink s r x y)
some_link None r x y = some_atom x y (Holds r) (decided_holds r)
some_link (Some s) r x y = some_test x (HoldsOf s r) (decided_holds_of s r)

-- ---- connectives, by their tables

pub some_conjunction : (P Q : Truth → Type 0) → HasSome P → HasSome Q → HasSome (IsConjunction P Q)
some_conjunction P Q h k = (conjunction h.0 k.0, conjoined h.0 k.0 P Q h.1 k.1)

pub some_opposite : (P : Truth → Type 0) → HasSome P → HasSome (λ u. P (opposite u))
some_opposite P h = (opposite h.0, subst P (sym (twice h.0)) h.1)

pub some_connected : (k : Connective) (P Q : Truth → Type 0) → HasSome P → HasSome Q → HasSome (IsConnected k P Q)
some_connected x P Q h k = (connected x h.0 k.0, connected-told x h.0 k.0 P Q h.1 k.1)

pub some_told_of : (q : Quantifier) (P Q : Truth → Type 0) → HasSome P → HasSome Q → HasSome (IsTold q P Q)
some_told_of q P Q h k = let u = some_connected (connective_of q) P Q h k in (u.0, told-by q P Q u.0 u.1)

-- ---- quantifiers

false_or : (P : Truth → Type 0) (t : Truth) → P t → P False ⊎ (P True ⊎ P Out)
false_or P True p = inr (inl p)
false_or P False p = inl p
false_or P Out p = inr (inr p)

true_or : (P : Truth → Type 0) (t : Truth) → P t → P True ⊎ (P False ⊎ P Out)
true_or P True p = inl p
true_or P False p = inr (inl p)
true_or P Out p = inr (inr p)

out_or : (P : Truth → Type 0) (t : Truth) → P t → P Out ⊎ (P True ⊎ P False)
out_or P True p = inr (inl p)
out_or P False p = inr (inr p)
out_or P Out p = inl p

is_true_or_not : (P : Truth → Type 0) → ((t u : Truth) → P t → P u → t ≡ u) → (t : Truth) → P t → Decided (P True)
is_true_or_not P one True p = inl p
is_true_or_not P one False p = inr (λ q. let e = one _ _ p q in (cc))
is_true_or_not P one Out p = inr (λ q. let e = one _ _ p q in (cc))

-- over the rows that R admits, each of which has one truth
module _ (R : List Value → Type 0) (P : List Value → Truth → Type 0) (rows : Listed R) (some : (vs : List Value) → HasSome (P vs)) where
  some_forall : HasSome (IsForAll R P)
  some_forall = elim (one_or_all (λ vs. P vs False) (λ vs. P vs True ⊎ P vs Out) rows (λ vs r. false_or (P vs) (some vs).0 (some vs).1)) [
    | inl h ↦ (False, h)
    | inr g ↦ ⊎_elim (λ o. (Out, (o, g))) (λ a. (True, a)) (one_or_all (λ vs. P vs Out) (λ vs. P vs True) rows (λ vs r. swapped (g vs r)))
  ]

  some_exists : HasSome (IsExists R P)
  some_exists = elim (one_or_all (λ vs. P vs True) (λ vs. P vs False ⊎ P vs Out) rows (λ vs r. true_or (P vs) (some vs).0 (some vs).1)) [
    | inl h ↦ (True, h)
    | inr g ↦ ⊎_elim (λ o. (Out, (o, g))) (λ a. (False, a)) (one_or_all (λ vs. P vs Out) (λ vs. P vs False) rows (λ vs r. swapped (g vs r)))
  ]

  decided_two : ((vs : List Value) (t u : Truth) → P vs t → P vs u → t ≡ u) → Decided (HasTwo R P)
  decided_two one =
      let is : (vs : List Value) → Decided (P vs True) = λ vs. is_true_or_not (P vs) (one vs) (some vs).0 (some vs).1 in
      decided_same (λ h. (h.0.0, h.0.1, h.1.0, h.1.1, h.2.0, h.2.1.0, h.2.1.1)) (λ h. ((h.0, h.1), (h.2, h.3), (h.4, (h.5, h.6))))
      (decided_some (λ (p : List Value × List Value). P p.0 True × (P p.1 True × (p.0 ≡ p.1 → ⊥))) (listed_pairs (λ vs ws. R ws) rows (λ vs. rows))
      (λ p. decided_both (is p.0) (decided_both (is p.1) (decided_not (same_row p.0 p.1)))))

  -- where no two rows are true, and none is out
  one_true : (HasTwo R P → ⊥) → ((vs : List Value) → R vs → P vs True ⊎ P vs False) → HasSome (IsExistsOne R P)
  one_true n g = elim (one_or_all (λ vs. P vs True) (λ vs. P vs False) rows g) [
    | inl h ↦ (True, (h.0, h.1, h.2, λ ws r. ⊎_elim (λ q. ⊎_elim (λ e. inl e) (λ m. absurd (n (h.0, ws, h.1, r, h.2, q, m))) (same_row h.0 ws)) (λ q. inr q) (g ws r)))
    | inr a ↦ (False, inr a)
  ]

  some_exists_one : ((vs : List Value) (t u : Truth) → P vs t → P vs u → t ≡ u) → HasSome (IsExistsOne R P)
  some_exists_one one = elim (decided_two one) [
    | inl two ↦ (False, inl two)
    | inr n ↦ ⊎_elim (λ o. (Out, (o, n))) (λ g. one_true n g) (one_or_all (λ vs. P vs Out) (λ vs. P vs True ⊎ P vs False) rows (λ vs r. out_or (P vs) (some vs).0 (some vs).1))
  ]

  some_over : (q : Quantifier) → ((vs : List Value) (t u : Truth) → P vs t → P vs u → t ≡ u) → HasSome (IsOver q R P)
  some_over quantifier.ForAll one = some_forall
  some_over quantifier.Exists one = some_exists
  some_over quantifier.ExistsOne one = some_exists_one one

pub some_quantified : (q : Quantifier) (s : Several) (P : List Value → Truth → Type 0) → ((vs : List Value) → HasSome (P vs))
    → ((vs : List Value) (t u : Truth) → P vs t → P vs u → t ≡ u) → HasSome (IsQuantified q s P)
some_quantified q one_out P f one = (Out, refl)
some_quantified q one_undefined P f one = some_over (λ vs. ⊥) P (listed_none (λ vs. ⊥) (λ vs h. h)) f q one
some_quantified q (values ss) P f one = some_over (λ vs. AreFrom vs ss) P (listed_rows ss) f q one
