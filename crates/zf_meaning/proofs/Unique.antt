-- A term has one outcome at most, and one truth.
use Rattle.zf_meaning.proofs.Prelude.{◌∙◌, ◌≡◌, List, None, Option, refl, Some, subst, sym, ⊎_elim, pos, one_Modulus, one_Quotient, HasOne, one_number, one_on_number, one_on_numbers, one_set, IsDifference, IsModulus, IsNegation, IsProduct, IsSum, IsInterval, IsQuotient, AreFrom, Outcome, Is, Out, Undefined, Truth, Value, Listed, Operator, Unary, Connective, Infix, Composition, Difference, Div, DomainRestriction, DomainSubtraction, Intersection, Maplet, Minus, Mod, Overriding, Plus, RangeRestriction, RangeSubtraction, Times, Union, UpTo, Quantifier, Relation, absent, binary, bracket, comprehension, chain, constant, empty_set, link, listed, no_links, no_ranges, no_terms, number, present, quantified, range, Ranges, reference, ResolvedLinks, ResolvedPart, ResolvedTree, ResolvedTrees, term, unary, Infinite, Context, within, AreLinked, Builds, HasOutcome, HaveOutcomes, HaveRanges, infinite_right, IsBuilt, IsBuiltBy, IsBuiltOver, IsConstraint, IsLink, IsOutOfBounds, IsTruth, IsWithinBounds, OnBoth, one_out, one_undefined, OnOne, OnSeveral, Several, values, AreArrows, BinaryOutcome, Holds, HoldsOf, InfixOutcome, ListedOutcome, PrefixOutcome, SignOutcome, UnaryOutcome, IsAtom, IsConjunction, IsConnected, IsDisjunction, IsEquivalence, IsExists, IsExistsOne, IsForAll, IsOver, IsQuantified, IsTest, IsTold, opposite, Tells, ℕ, Constant, Num, Nat, Nat1, IsConstantOutcome, IsNumberSet}
use Rattle.zf_tree.specs.declared.symbol.Connective.TheVariants as connective
use Rattle.zf_tree.specs.declared.symbol.Constant.TheVariants as the_constant
use Rattle.zf_tree.specs.declared.symbol.Prefix.{Prefix}
use Rattle.zf_tree.specs.declared.symbol.Prefix.TheVariants as prefix
use Rattle.zf_tree.specs.declared.symbol.Quantifier.TheVariants as quantifier
use Rattle.zf_tree.specs.declared.operator.Sign.{Sign}
use Rattle.zf_tree.specs.declared.operator.Sign.TheVariants as sign
use Rattle.zf_tree.specs.declared.operator.Listed.TheVariants as the_listed
use Rattle.zf_tree.specs.declared.operator.Operator.TheVariants as operator
use Rattle.zf_tree.specs.declared.operator.Unary.TheVariants as the_unary
use Rattle.zf_value.specs.declared.value.Truth.TheVariants as truth
use Rattle.zf_value.proofs.Once as once

one_infix : (op : Infix) (v w : Value) → HasOne (InfixOutcome op v w)
one_infix Maplet v w o p h k = h ∙ sym k
one_infix UpTo v w o p h k = one_on_numbers _ _ IsInterval once.one_Interval o p h k
one_infix Plus v w o p h k = one_on_numbers _ _ IsSum once.one_Sum o p h k
one_infix Minus v w o p h k = one_on_numbers _ _ IsDifference once.one_Difference o p h k
one_infix Times v w o p h k = one_on_numbers _ _ IsProduct once.one_Product o p h k
one_infix Div v w o p h k = one_on_numbers _ _ IsQuotient one_Quotient o p h k
one_infix Mod v w o p h k = one_on_numbers _ _ IsModulus one_Modulus o p h k
one_infix Union v w o p h k = once.one_Union _ _ o p h k
one_infix Difference v w o p h k = once.one_SetDifference _ _ o p h k
one_infix Intersection v w o p h k = once.one_Intersection _ _ o p h k
one_infix Composition v w o p h k = once.one_Composition _ _ o p h k
one_infix Overriding v w o p h k = once.one_Overriding _ _ o p h k
one_infix DomainRestriction v w o p h k = once.one_DomainRestriction _ _ o p h k
one_infix RangeRestriction v w o p h k = once.one_RangeRestriction _ _ o p h k
one_infix DomainSubtraction v w o p h k = once.one_DomainSubtraction _ _ o p h k
one_infix RangeSubtraction v w o p h k = once.one_RangeSubtraction _ _ o p h k

one_binary : (op : Operator) (v w : Value) → HasOne (BinaryOutcome op v w)
unfolding AreArrows
one_binary (operator.Function op) v w o p h k = one_infix op v w o p h k
one_binary (operator.Generic op) v w o p h k = one_set _ o p h k
one_binary (operator.Connective x) v w o p h k = h ∙ sym k
one_binary operator.Application v w o p h k = once.one_Applied _ _ o p h k
one_binary operator.Image v w o p h k = once.one_Image _ _ o p h k

one_prefix : (op : Prefix) (v : Value) → HasOne (PrefixOutcome op v)
one_prefix prefix.Power v o p h k = once.one_Power _ o p h k
one_prefix prefix.Finset v o p h k = once.one_Power _ o p h k
one_prefix prefix.Domain v o p h k = once.one_Domain _ o p h k
one_prefix prefix.Range v o p h k = once.one_Range _ o p h k
one_prefix prefix.Size v o p h k = once.one_Size _ o p h k

one_sign : (s : Sign) (v : Value) → HasOne (SignOutcome s v)
one_sign sign.Minus v o p h k = one_on_number _ IsNegation once.one_Negation o p h k
one_sign (sign.Symbol op) v o p h k = one_prefix op v o p h k

one_unary : (op : Unary) (v : Value) → HasOne (UnaryOutcome op v)
one_unary (the_unary.Sign s) v o p h k = one_sign s v o p h k
one_unary the_unary.Inverse v o p h k = once.one_Inverse _ o p h k
one_unary the_unary.Not v o p h k = h ∙ sym k

pub one_number_set : (n : Option ℕ) (s : Infinite) → HasOne (IsNumberSet n s)
one_number_set None s o p h k = h ∙ sym k
one_number_set (Some n) s o p h k = once.one_Interval _ _ o p h k

one_constant : (n : Option ℕ) (k : Constant) → HasOne (IsConstantOutcome n k)
one_constant n the_constant.True o p h k = h ∙ sym k
one_constant n the_constant.False o p h k = h ∙ sym k
one_constant n the_constant.Integers o p h k = one_number_set n Num o p h k
one_constant n the_constant.Naturals o p h k = one_number_set n Nat o p h k
one_constant n the_constant.Positives o p h k = one_number_set n Nat1 o p h k

one_listed : (form : Listed) (vs : List Value) → HasOne (ListedOutcome form vs)
one_listed the_listed.Tuple vs o p h k = h ∙ sym k
one_listed the_listed.Display vs o p h k = once.one_Display _ o p h k
one_listed the_listed.Product vs o p h k = once.one_Cross _ o p h k

pub one_on_one : (x : Outcome) (P : Value → Outcome → Type 0) → ((v : Value) → HasOne (P v)) → HasOne (OnOne x P)
one_on_one Out P f o p h k = h ∙ sym k
one_on_one Undefined P f o p h k = h ∙ sym k
one_on_one (Is v) P f o p h k = f v o p h k

one_on_both : (x y : Outcome) (P : Value → Value → Outcome → Type 0) → ((v w : Value) → HasOne (P v w)) → HasOne (OnBoth x y P)
one_on_both (Is v) (Is w) P f o p h k = f v w o p h k
one_on_both (Is v) Undefined P f o p h k = h ∙ sym k
one_on_both (Is v) Out P f o p h k = h ∙ sym k
one_on_both Undefined (Is w) P f o p h k = h ∙ sym k
one_on_both Undefined Undefined P f o p h k = h ∙ sym k
one_on_both Undefined Out P f o p h k = h ∙ sym k
one_on_both Out y P f o p h k = h ∙ sym k

pub one_on_several : (s : Several) (P : List Value → Outcome → Type 0) → ((vs : List Value) → HasOne (P vs)) → HasOne (OnSeveral s P)
one_on_several one_out P f o p h k = h ∙ sym k
one_on_several one_undefined P f o p h k = h ∙ sym k
one_on_several (values vs) P f o p h k = f vs o p h k

-- ---- truths

one_told : (P : Type 0) (t u : Truth) → Tells P t → Tells P u → t ≡ u
one_told P truth.True truth.True h k = refl
one_told P truth.True truth.False h k = absurd (k h)
one_told P truth.False truth.True h k = absurd (h k)
one_told P truth.False truth.False h k = refl
one_told P truth.Out u h k = absurd h
one_told P t truth.Out h k = absurd k

one_atom : (x y : Outcome) (P : Value → Value → Type 0) (t u : Truth) → IsAtom x y P t → IsAtom x y P u → t ≡ u
one_atom Out y P t u h k = h ∙ sym k
one_atom (Is v) Out P t u h k = h ∙ sym k
one_atom Undefined Out P t u h k = h ∙ sym k
one_atom Undefined Undefined P t u h k = h ∙ sym k
one_atom Undefined (Is w) P t u h k = h ∙ sym k
one_atom (Is v) Undefined P t u h k = h ∙ sym k
one_atom (Is v) (Is w) P t u h k = one_told (P v w) t u h k

one_test : (x : Outcome) (P : Value → Type 0) (t u : Truth) → IsTest x P t → IsTest x P u → t ≡ u
one_test Out P t u h k = h ∙ sym k
one_test Undefined P t u h k = h ∙ sym k
one_test (Is v) P t u h k = one_told (P v) t u h k

one_link : (s : Option Infinite) (r : Relation) (x y : Outcome) (t u : Truth) → IsLink s r x y t → IsLink s r x y u → t ≡ u
one_link None r x y t u h k = one_atom x y (Holds r) t u h k
one_link (Some s) r x y t u h k = one_test x (HoldsOf s r) t u h k

-- ---- connectives

abbrev IsOne : (Truth → Type 0) → Type 0
IsOne P = (t u : Truth) → P t → P u → t ≡ u

true_is_not_false : (P : Truth → Type 0) → IsOne P → P truth.True → P truth.False → ⊥
true_is_not_false P f h k = let e = f _ _ h k in (cc)

true_is_not_out : (P : Truth → Type 0) → IsOne P → P truth.True → P truth.Out → ⊥
true_is_not_out P f h k = let e = f _ _ h k in (cc)

false_is_not_out : (P : Truth → Type 0) → IsOne P → P truth.False → P truth.Out → ⊥
false_is_not_out P f h k = let e = f _ _ h k in (cc)

not_false_and_out : (P Q : Truth → Type 0) → IsOne P → IsOne Q → IsConjunction P Q truth.False → IsConjunction P Q truth.Out → ⊥
not_false_and_out P Q f g h k =
    ⊎_elim (λ x. ⊎_elim (λ y. false_is_not_out P f x y.0) (λ y. true_is_not_false P f y.0 x) k)
    (λ x. ⊎_elim (λ y. ⊎_elim (λ z. true_is_not_false Q g z x) (λ z. false_is_not_out Q g x z) y.1) (λ y. false_is_not_out Q g x y.1) k) h

one_conjunction : (P Q : Truth → Type 0) → IsOne P → IsOne Q → IsOne (IsConjunction P Q)
one_conjunction P Q f g truth.True truth.True h k = refl
one_conjunction P Q f g truth.False truth.False h k = refl
one_conjunction P Q f g truth.Out truth.Out h k = refl
one_conjunction P Q f g truth.True truth.False h k = absurd (⊎_elim (λ x. true_is_not_false P f h.0 x) (λ x. true_is_not_false Q g h.1 x) k)
one_conjunction P Q f g truth.False truth.True h k = absurd (⊎_elim (λ x. true_is_not_false P f k.0 x) (λ x. true_is_not_false Q g k.1 x) h)
one_conjunction P Q f g truth.True truth.Out h k = absurd (⊎_elim (λ x. true_is_not_out P f h.0 x.0) (λ x. true_is_not_out Q g h.1 x.1) k)
one_conjunction P Q f g truth.Out truth.True h k = absurd (⊎_elim (λ x. true_is_not_out P f k.0 x.0) (λ x. true_is_not_out Q g k.1 x.1) h)
one_conjunction P Q f g truth.False truth.Out h k = absurd (not_false_and_out P Q f g h k)
one_conjunction P Q f g truth.Out truth.False h k = absurd (not_false_and_out P Q f g k h)

not_true_and_out : (P Q : Truth → Type 0) → IsOne P → IsOne Q → IsDisjunction P Q truth.True → IsDisjunction P Q truth.Out → ⊥
not_true_and_out P Q f g h k =
    ⊎_elim (λ x. ⊎_elim (λ y. true_is_not_out P f x y.0) (λ y. true_is_not_false P f x y.0) k)
    (λ x. ⊎_elim (λ y. ⊎_elim (λ z. true_is_not_false Q g x z) (λ z. true_is_not_out Q g x z) y.1) (λ y. true_is_not_out Q g x y.1) k) h

one_disjunction : (P Q : Truth → Type 0) → IsOne P → IsOne Q → IsOne (IsDisjunction P Q)
one_disjunction P Q f g truth.True truth.True h k = refl
one_disjunction P Q f g truth.False truth.False h k = refl
one_disjunction P Q f g truth.Out truth.Out h k = refl
one_disjunction P Q f g truth.True truth.False h k = absurd (⊎_elim (λ x. true_is_not_false P f x k.0) (λ x. true_is_not_false Q g x k.1) h)
one_disjunction P Q f g truth.False truth.True h k = absurd (⊎_elim (λ x. true_is_not_false P f x h.0) (λ x. true_is_not_false Q g x h.1) k)
one_disjunction P Q f g truth.True truth.Out h k = absurd (not_true_and_out P Q f g h k)
one_disjunction P Q f g truth.Out truth.True h k = absurd (not_true_and_out P Q f g k h)
one_disjunction P Q f g truth.False truth.Out h k = absurd (⊎_elim (λ x. false_is_not_out P f h.0 x.0) (λ x. false_is_not_out Q g h.1 x.1) k)
one_disjunction P Q f g truth.Out truth.False h k = absurd (⊎_elim (λ x. false_is_not_out P f k.0 x.0) (λ x. false_is_not_out Q g k.1 x.1) h)

one_opposite : (P : Truth → Type 0) → IsOne P → IsOne (λ u. P (opposite u))
one_opposite P f truth.True truth.True h k = refl
one_opposite P f truth.False truth.False h k = refl
one_opposite P f truth.Out truth.Out h k = refl
one_opposite P f truth.True truth.False h k = let e = f _ _ h k in (cc)
one_opposite P f truth.False truth.True h k = let e = f _ _ h k in (cc)
one_opposite P f truth.True truth.Out h k = let e = f _ _ h k in (cc)
one_opposite P f truth.Out truth.True h k = let e = f _ _ h k in (cc)
one_opposite P f truth.False truth.Out h k = let e = f _ _ h k in (cc)
one_opposite P f truth.Out truth.False h k = let e = f _ _ h k in (cc)

differs : (P Q : Truth → Type 0) → IsOne P → IsOne Q → IsEquivalence P Q truth.True → IsEquivalence P Q truth.False → ⊥
differs P Q f g h k =
    ⊎_elim (λ x. ⊎_elim (λ y. true_is_not_false Q g x.1 y.1) (λ y. true_is_not_false P f x.0 y.0) k)
    (λ x. ⊎_elim (λ y. true_is_not_false P f y.0 x.0) (λ y. true_is_not_false Q g y.1 x.1) k) h

true_with_out : (P Q : Truth → Type 0) → IsOne P → IsOne Q → IsEquivalence P Q truth.True → IsEquivalence P Q truth.Out → ⊥
true_with_out P Q f g h k =
    ⊎_elim (λ x. ⊎_elim (λ y. true_is_not_out P f x.0 y) (λ y. true_is_not_out Q g x.1 y) k)
    (λ x. ⊎_elim (λ y. false_is_not_out P f x.0 y) (λ y. false_is_not_out Q g x.1 y) k) h

false_with_out : (P Q : Truth → Type 0) → IsOne P → IsOne Q → IsEquivalence P Q truth.False → IsEquivalence P Q truth.Out → ⊥
false_with_out P Q f g h k =
    ⊎_elim (λ x. ⊎_elim (λ y. true_is_not_out P f x.0 y) (λ y. false_is_not_out Q g x.1 y) k)
    (λ x. ⊎_elim (λ y. false_is_not_out P f x.0 y) (λ y. true_is_not_out Q g x.1 y) k) h

one_equivalence : (P Q : Truth → Type 0) → IsOne P → IsOne Q → IsOne (IsEquivalence P Q)
one_equivalence P Q f g truth.True truth.True h k = refl
one_equivalence P Q f g truth.False truth.False h k = refl
one_equivalence P Q f g truth.Out truth.Out h k = refl
one_equivalence P Q f g truth.True truth.False h k = absurd (differs P Q f g h k)
one_equivalence P Q f g truth.False truth.True h k = absurd (differs P Q f g k h)
one_equivalence P Q f g truth.True truth.Out h k = absurd (true_with_out P Q f g h k)
one_equivalence P Q f g truth.Out truth.True h k = absurd (true_with_out P Q f g k h)
one_equivalence P Q f g truth.False truth.Out h k = absurd (false_with_out P Q f g h k)
one_equivalence P Q f g truth.Out truth.False h k = absurd (false_with_out P Q f g k h)

one_connected : (x : Connective) (P Q : Truth → Type 0) → IsOne P → IsOne Q → IsOne (IsConnected x P Q)
one_connected connective.And P Q f g t u h k = one_conjunction P Q f g t u h k
one_connected connective.Or P Q f g t u h k = one_disjunction P Q f g t u h k
one_connected connective.Implies P Q f g t u h k = one_disjunction (λ p. P (opposite p)) Q (one_opposite P f) g t u h k
one_connected connective.Iff P Q f g t u h k = one_equivalence P Q f g t u h k

pub one_told_of : (q : Quantifier) (P Q : Truth → Type 0) → IsOne P → IsOne Q → IsOne (IsTold q P Q)
one_told_of quantifier.ForAll P Q f g t u h k = one_disjunction (λ p. P (opposite p)) Q (one_opposite P f) g t u h k
one_told_of quantifier.Exists P Q f g t u h k = one_conjunction P Q f g t u h k
one_told_of quantifier.ExistsOne P Q f g t u h k = one_conjunction P Q f g t u h k

-- ---- quantifiers

abbrev EachOne : (List Value → Truth → Type 0) → Type 0
EachOne P = (vs : List Value) (t u : Truth) → P vs t → P vs u → t ≡ u

one_forall : (R : List Value → Type 0) (P : List Value → Truth → Type 0) → EachOne P → (t u : Truth) → IsForAll R P t → IsForAll R P u → t ≡ u
one_forall R P f truth.True truth.True h k = refl
one_forall R P f truth.False truth.False h k = refl
one_forall R P f truth.Out truth.Out h k = refl
one_forall R P f truth.True truth.False h k = f k.0 _ _ (h k.0 k.1) k.2
one_forall R P f truth.False truth.True h k = f h.0 _ _ h.2 (k h.0 h.1)
one_forall R P f truth.True truth.Out h k = f k.0.0 _ _ (h k.0.0 k.0.1) k.0.2
one_forall R P f truth.Out truth.True h k = f h.0.0 _ _ h.0.2 (k h.0.0 h.0.1)
one_forall R P f truth.False truth.Out h k = ⊎_elim (λ q. let e = f h.0 _ _ h.2 q in (cc)) (λ q. f h.0 _ _ h.2 q) (k.1 h.0 h.1)
one_forall R P f truth.Out truth.False h k = ⊎_elim (λ q. let e = f k.0 _ _ k.2 q in (cc)) (λ q. f k.0 _ _ q k.2) (h.1 k.0 k.1)

one_exists : (R : List Value → Type 0) (P : List Value → Truth → Type 0) → EachOne P → (t u : Truth) → IsExists R P t → IsExists R P u → t ≡ u
one_exists R P f truth.True truth.True h k = refl
one_exists R P f truth.False truth.False h k = refl
one_exists R P f truth.Out truth.Out h k = refl
one_exists R P f truth.False truth.True h k = f k.0 _ _ (h k.0 k.1) k.2
one_exists R P f truth.True truth.False h k = f h.0 _ _ h.2 (k h.0 h.1)
one_exists R P f truth.False truth.Out h k = f k.0.0 _ _ (h k.0.0 k.0.1) k.0.2
one_exists R P f truth.Out truth.False h k = f h.0.0 _ _ h.0.2 (k h.0.0 h.0.1)
one_exists R P f truth.True truth.Out h k = ⊎_elim (λ q. let e = f h.0 _ _ h.2 q in (cc)) (λ q. f h.0 _ _ h.2 q) (k.1 h.0 h.1)
one_exists R P f truth.Out truth.True h k = ⊎_elim (λ q. let e = f k.0 _ _ k.2 q in (cc)) (λ q. f k.0 _ _ q k.2) (h.1 k.0 k.1)

abbrev IsOneTrue : (List Value → Type 0) → (List Value → Truth → Type 0) → Type 0
IsOneTrue R P = IsExistsOne R P truth.True

-- where one row alone is true, it is each true one
the_true : (R : List Value → Type 0) (P : List Value → Truth → Type 0) → EachOne P → (h : IsOneTrue R P) (ws : List Value) → R ws → P ws truth.True → h.0 ≡ ws
the_true R P f h ws r q = ⊎_elim (λ e. e) (λ x. let e = f ws _ _ x q in (cc)) (h.3 ws r)

true_false : (R : List Value → Type 0) (P : List Value → Truth → Type 0) → EachOne P → IsOneTrue R P → IsExistsOne R P truth.False → ⊥
true_false R P f h k = ⊎_elim (λ x. x.6 (sym (the_true R P f h x.0 x.2 x.4) ∙ the_true R P f h x.1 x.3 x.5)) (λ x. let e = f h.0 _ _ h.2 (x h.0 h.1) in (cc)) k

true_out : (R : List Value → Type 0) (P : List Value → Truth → Type 0) → EachOne P → IsOneTrue R P → IsExistsOne R P truth.Out → ⊥
true_out R P f h k = ⊎_elim (λ s. let e = f k.0.0 _ _ (subst (λ vs. P vs truth.True) s h.2) k.0.2 in (cc)) (λ x. let e = f k.0.0 _ _ x k.0.2 in (cc)) (h.3 k.0.0 k.0.1)

false_out : (R : List Value → Type 0) (P : List Value → Truth → Type 0) → EachOne P → IsExistsOne R P truth.False → IsExistsOne R P truth.Out → ⊥
false_out R P f h k = ⊎_elim (λ x. k.1 x) (λ x. let e = f k.0.0 _ _ (x k.0.0 k.0.1) k.0.2 in (cc)) h

one_exists_one : (R : List Value → Type 0) (P : List Value → Truth → Type 0) → EachOne P → (t u : Truth) → IsExistsOne R P t → IsExistsOne R P u → t ≡ u
one_exists_one R P f truth.True truth.True h k = refl
one_exists_one R P f truth.False truth.False h k = refl
one_exists_one R P f truth.Out truth.Out h k = refl
one_exists_one R P f truth.True truth.False h k = absurd (true_false R P f h k)
one_exists_one R P f truth.False truth.True h k = absurd (true_false R P f k h)
one_exists_one R P f truth.True truth.Out h k = absurd (true_out R P f h k)
one_exists_one R P f truth.Out truth.True h k = absurd (true_out R P f k h)
one_exists_one R P f truth.False truth.Out h k = absurd (false_out R P f h k)
one_exists_one R P f truth.Out truth.False h k = absurd (false_out R P f k h)

one_over : (q : Quantifier) (R : List Value → Type 0) (P : List Value → Truth → Type 0) → EachOne P → (t u : Truth) → IsOver q R P t → IsOver q R P u → t ≡ u
one_over quantifier.ForAll R P f t u h k = one_forall R P f t u h k
one_over quantifier.Exists R P f t u h k = one_exists R P f t u h k
one_over quantifier.ExistsOne R P f t u h k = one_exists_one R P f t u h k

one_quantified : (q : Quantifier) (s : Several) (P : List Value → Truth → Type 0) → EachOne P → (t u : Truth) → IsQuantified q s P t → IsQuantified q s P u → t ≡ u
one_quantified q one_out P f t u h k = h ∙ sym k
one_quantified q one_undefined P f t u h k = one_over q (λ vs. ⊥) P f t u h k
one_quantified q (values ss) P f t u h k = one_over q (λ vs. AreFrom vs ss) P f t u h k

-- ---- comprehensions

not_both : (F : List Value → Truth → Type 0) (T : List Value → Outcome → Type 0) → EachOne F → ((vs : List Value) → HasOne (T vs)) → (vs : List Value)
    → IsWithinBounds F T vs → IsOutOfBounds F T vs → ⊥
not_both F T f g vs h k =
    ⊎_elim (λ a. ⊎_elim (λ x. let e = f vs _ _ a x in (cc)) (λ x. let e = f vs _ _ a x.0 in (cc)) k)
    (λ a. ⊎_elim (λ x. let e = f vs _ _ a.0 x in (cc)) (λ x. ⊎_elim (λ y. let e = g vs _ _ y x.1 in (cc)) (λ y. let e = g vs _ _ y.1 x.1 in (cc)) a.1) k) h

one_built_over : (R : List Value → Type 0) (F : List Value → Truth → Type 0) (T : List Value → Outcome → Type 0) → EachOne F → ((vs : List Value) → HasOne (T vs)) → HasOne (IsBuiltOver R F T)
one_built_over R F T f g (Is v) (Is w) h k = one_set (IsBuiltBy R F T) (Is v) (Is w) h.1 k.1
one_built_over R F T f g (Is v) Out h k = ⊎_elim (λ x. absurd (not_both F T f g x.0 (h.0 x.0 x.1) x.2)) (λ x. one_set (IsBuiltBy R F T) (Is v) Out h.1 x) k
one_built_over R F T f g Out (Is w) h k = ⊎_elim (λ x. absurd (not_both F T f g x.0 (k.0 x.0 x.1) x.2)) (λ x. one_set (IsBuiltBy R F T) Out (Is w) x k.1) h
one_built_over R F T f g Out Out h k = refl
one_built_over R F T f g Undefined p h k = absurd h
one_built_over R F T f g o Undefined h k = absurd k

one_built : (s : Several) (F : List Value → Truth → Type 0) (T : List Value → Outcome → Type 0) → EachOne F → ((vs : List Value) → HasOne (T vs)) → HasOne (IsBuilt s F T)
one_built one_out F T f g o p h k = h ∙ sym k
one_built one_undefined F T f g o p h k = h ∙ sym k
one_built (values ss) F T f g o p h k = one_built_over (λ vs. AreFrom vs ss) F T f g o p h k

-- ---- terms

mutual
  pub one_outcome : (c : Context) (t : ResolvedTree) (o p : Outcome) → HasOutcome c t o → HasOutcome c t p → o ≡ p
  one_outcome c (reference l r) o p h k = h ∙ sym k
  one_outcome c (number l n) o p h k = one_number (pos n) o p h k
  one_outcome c (constant l x) o p h k = one_constant c.environment.numbers x o p h k
  one_outcome c (empty_set l t) o p h k = h ∙ sym k
  one_outcome c (bracket l t) o p h k = one_outcome c t o p h k
  one_outcome c (listed l form ts) o p h k =
      let s = one_several c ts h.0 k.0 h.1 k.1 in
      one_on_several k.0 (ListedOutcome form) (one_listed form) o p (subst (λ u. OnSeveral u (ListedOutcome form) o) s h.2) k.2
  one_outcome c (comprehension l rs f t) o p h k =
      let s = one_ranges c rs h.0 k.0 h.1 k.1 in
      one_built k.0 (λ vs u. IsConstraint (within c vs) f u) (λ vs x. Builds (within c vs) vs t x) (λ vs u w. one_constraint (within c vs) f u w) (λ vs x y. one_build (within c vs) vs t x y) o p
      (subst (λ z. IsBuilt z (λ vs u. IsConstraint (within c vs) f u) (λ vs x. Builds (within c vs) vs t x) o) s h.2) k.2
  one_outcome c (unary l op t) o p h k =
      let x = one_outcome c t h.0 k.0 h.1 k.1 in
      one_on_one k.0 (UnaryOutcome op) (one_unary op) o p (subst (λ u. OnOne u (UnaryOutcome op) o) x h.2) k.2
  one_outcome c (binary l op a b) o p h k =
      let x = one_outcome c a h.0 k.0 h.2 k.2 in
      let y = one_outcome c b h.1 k.1 h.3 k.3 in
      one_on_both k.0 k.1 (BinaryOutcome op) (one_binary op) o p (subst (λ u. OnBoth u k.1 (BinaryOutcome op) o) x (subst (λ u. OnBoth h.0 u (BinaryOutcome op) o) y h.4)) k.4
  one_outcome c (chain l t ks) o p h k = h ∙ sym k
  one_outcome c (quantified l q rs f t) o p h k = h ∙ sym k

  one_several : (c : Context) (ts : ResolvedTrees) (s r : Several) → HaveOutcomes c ts s → HaveOutcomes c ts r → s ≡ r
  one_several c no_terms s r h k = h ∙ sym k
  one_several c (term t ts) s r h k =
      let x = one_outcome c t h.0 k.0 h.2 k.2 in
      let y = one_several c ts h.1 k.1 h.3 k.3 in
      (cc)

  one_ranges : (c : Context) (rs : Ranges) (s r : Several) → HaveRanges c rs s → HaveRanges c rs r → s ≡ r
  one_ranges c no_ranges s r h k = h ∙ sym k
  one_ranges c (range n t rs) s r h k =
      let x = one_outcome c t h.0 k.0 h.2 k.2 in
      let y = one_ranges c rs h.1 k.1 h.3 k.3 in
      (cc)

  pub one_build : (c : Context) (vs : List Value) (t : ResolvedPart) (o p : Outcome) → Builds c vs t o → Builds c vs t p → o ≡ p
  one_build c vs absent o p h k = h ∙ sym k
  one_build c vs (present t) o p h k = one_outcome c t o p h k

  pub one_constraint : (c : Context) (t : ResolvedPart) (u w : Truth) → IsConstraint c t u → IsConstraint c t w → u ≡ w
  one_constraint c absent u w h k = h ∙ sym k
  one_constraint c (present t) u w h k = one_truth c t u w h k

  pub one_truth : (c : Context) (t : ResolvedTree) (u w : Truth) → IsTruth c t u → IsTruth c t w → u ≡ w
  one_truth c (constant l x) u w h k = h ∙ sym k
  one_truth c (bracket l t) u w h k = one_truth c t u w h k
  one_truth c (unary l the_unary.Not t) u w h k = one_opposite (λ p. IsTruth c t p) (λ p q. one_truth c t p q) u w h k
  one_truth c (unary l (the_unary.Sign s) t) u w h k = h ∙ sym k
  one_truth c (unary l the_unary.Inverse t) u w h k = h ∙ sym k
  one_truth c (binary l (operator.Connective x) a b) u w h k =
      one_connected x (λ p. IsTruth c a p) (λ q. IsTruth c b q) (λ p q. one_truth c a p q) (λ p q. one_truth c b p q) u w h k
  one_truth c (binary l (operator.Function x) a b) u w h k = h ∙ sym k
  one_truth c (binary l (operator.Generic x) a b) u w h k = h ∙ sym k
  one_truth c (binary l operator.Application a b) u w h k = h ∙ sym k
  one_truth c (binary l operator.Image a b) u w h k = h ∙ sym k
  one_truth c (chain l t ks) u w h k =
      let x = one_outcome c t h.0 k.0 h.1 k.1 in
      one_linked c k.0 ks u w (subst (λ z. AreLinked c z ks u) x h.2) k.2
  one_truth c (quantified l q rs f t) u w h k =
      let s = one_ranges c rs h.0 k.0 h.1 k.1 in
      one_quantified q k.0 (λ vs z. IsTold q (λ a. IsConstraint (within c vs) f a) (λ b. IsTruth (within c vs) t b) z)
      (λ vs y z m n. one_told_of q (λ a. IsConstraint (within c vs) f a) (λ b. IsTruth (within c vs) t b) (λ a b. one_constraint (within c vs) f a b)
      (λ a b. one_truth (within c vs) t a b) y z m n) u w
      (subst (λ x. IsQuantified q x (λ vs z. IsTold q (λ a. IsConstraint (within c vs) f a) (λ b. IsTruth (within c vs) t b) z) u) s h.2) k.2
  one_truth c (reference l r) u w h k = h ∙ sym k
  one_truth c (number l n) u w h k = h ∙ sym k
  one_truth c (empty_set l t) u w h k = h ∙ sym k
  one_truth c (listed l form ts) u w h k = h ∙ sym k
  one_truth c (comprehension l rs f t) u w h k = h ∙ sym k

  one_linked : (c : Context) (x : Outcome) (ks : ResolvedLinks) (u w : Truth) → AreLinked c x ks u → AreLinked c x ks w → u ≡ w
  one_linked c x no_links u w h k = h ∙ sym k
  one_linked c x (link r t ks) u w h k =
      let y = one_outcome c t h.0 k.0 h.1 k.1 in
      one_conjunction (λ p. IsLink (infinite_right c r t) r x k.0 p) (λ q. AreLinked c k.0 ks q) (λ p q. one_link (infinite_right c r t) r x k.0 p q) (λ p q. one_linked c k.0 ks p q) u w
      (subst (λ z. IsConjunction (λ p. IsLink (infinite_right c r t) r x z p) (λ q. AreLinked c z ks q) u) y h.2) k.2
