-- Each expression has an outcome, and each predicate a truth.
use Rattle.law_total.proofs.Prelude.{[], List, None, Option, refl, Some, ℕ, pos, pair, Outcome, Is, Out, Undefined, SetOf, Tuple, Value, Context, outcome_in, within, AreLinked, Builds, constant_truth, HasOutcome, HaveOutcomes, HaveRanges, infinite_right, IsConstraint, IsLink, IsTruth, row_value, OnBoth, one_more, one_out, one_undefined, OnOne, OnSeveral, repeated, Several, values, BinaryOutcome, InfixOutcome, ListedOutcome, PrefixOutcome, SignOutcome, UnaryOutcome, IsTold, absent, binary, bracket, comprehension, chain, constant, empty_set, link, listed, no_links, no_ranges, no_terms, number, present, quantified, range, Ranges, reference, ResolvedLinks, ResolvedPart, ResolvedTree, term, unary, Infinite, Num, Nat, Nat1, IsConstantOutcome, IsNumberSet, least, IsDifference, IsInterval, IsModulus, IsNegation, IsProduct, IsQuotient, IsSum, one_truth, one_constraint, one_build, one_told_of}
use Rattle.zf_tree.specs.declared.symbol.Constant.{Constant}
use Rattle.zf_tree.specs.declared.symbol.Constant.TheVariants as constants
use Rattle.zf_tree.specs.declared.symbol.Infix.{Infix}
use Rattle.zf_tree.specs.declared.symbol.Infix.TheVariants.{Maplet, UpTo, Plus, Minus, Union, Difference, Times, Div, Mod, Intersection, Composition, Overriding, DomainRestriction, RangeRestriction, DomainSubtraction, RangeSubtraction}
use Rattle.zf_tree.specs.declared.symbol.Prefix.{Prefix}
use Rattle.zf_tree.specs.declared.symbol.Prefix.TheVariants as prefix
use Rattle.zf_tree.specs.declared.operator.Sign.{Sign}
use Rattle.zf_tree.specs.declared.operator.Sign.TheVariants as sign
use Rattle.zf_tree.specs.declared.operator.Listed.{Listed}
use Rattle.zf_tree.specs.declared.operator.Listed.TheVariants as the_listed
use Rattle.zf_tree.specs.declared.operator.Operator.{Operator}
use Rattle.zf_tree.specs.declared.operator.Operator.TheVariants as operator
use Rattle.zf_tree.specs.declared.operator.Unary.{Unary}
use Rattle.zf_tree.specs.declared.operator.Unary.TheVariants as the_unary
use Rattle.zf_term.specs.ResolvedTrees.{ResolvedTrees}
use Rattle.zf_value.specs.declared.value.Truth.TheVariants as truth
use Rattle.law_total.proofs.Listed.{HasSome}
use Rattle.law_total.proofs.Numbers as numbers
use Rattle.law_total.proofs.Operations as operations
use Rattle.law_total.proofs.Truths.{some_link, some_conjunction, some_opposite, some_connected, some_told_of, some_quantified}
use Rattle.law_total.proofs.Comprehensions.{some_built}

-- ---- symbols

some_infix : (op : Infix) (v w : Value) → HasSome (InfixOutcome op v w)
some_infix Maplet v w = (Is (pair v w), refl)
some_infix UpTo v w = numbers.some_on_numbers _ _ IsInterval numbers.some_interval
some_infix Plus v w = numbers.some_on_numbers _ _ IsSum numbers.some_sum
some_infix Minus v w = numbers.some_on_numbers _ _ IsDifference numbers.some_difference
some_infix Times v w = numbers.some_on_numbers _ _ IsProduct numbers.some_product
some_infix Div v w = numbers.some_on_numbers _ _ IsQuotient numbers.some_quotient
some_infix Mod v w = numbers.some_on_numbers _ _ IsModulus numbers.some_modulus
some_infix Union v w = operations.some_union _ _
some_infix Difference v w = operations.some_set_difference _ _
some_infix Intersection v w = operations.some_intersection _ _
some_infix Composition v w = operations.some_composition _ _
some_infix Overriding v w = operations.some_overriding _ _
some_infix DomainRestriction v w = operations.some_domain_restriction _ _
some_infix RangeRestriction v w = operations.some_range_restriction _ _
some_infix DomainSubtraction v w = operations.some_domain_subtraction _ _
some_infix RangeSubtraction v w = operations.some_range_subtraction _ _

some_binary : (op : Operator) (v w : Value) → HasSome (BinaryOutcome op v w)
some_binary (operator.Function op) v w = some_infix op v w
some_binary (operator.Generic op) v w = operations.some_arrows op _ _
some_binary (operator.Connective x) v w = (Undefined, refl)
some_binary operator.Application v w = operations.some_applied _ _
some_binary operator.Image v w = operations.some_image _ _

some_prefix : (op : Prefix) (v : Value) → HasSome (PrefixOutcome op v)
some_prefix prefix.Power v = operations.some_power _
some_prefix prefix.Finset v = operations.some_power _
some_prefix prefix.Domain v = operations.some_domain _
some_prefix prefix.Range v = operations.some_range _
some_prefix prefix.Size v = operations.some_size _

some_sign : (s : Sign) (v : Value) → HasSome (SignOutcome s v)
some_sign sign.Minus v = numbers.some_on_number _ IsNegation numbers.some_negation
some_sign (sign.Symbol op) v = some_prefix op v

some_unary : (op : Unary) (v : Value) → HasSome (UnaryOutcome op v)
some_unary (the_unary.Sign s) v = some_sign s v
some_unary the_unary.Inverse v = operations.some_inverse _
some_unary the_unary.Not v = (Undefined, refl)

some_listed : (form : Listed) (vs : List Value) → HasSome (ListedOutcome form vs)
some_listed the_listed.Tuple vs = (Is (Tuple vs), refl)
some_listed the_listed.Display vs = operations.some_display _
some_listed the_listed.Product vs = operations.some_cross _

pub some_on_one : (x : Outcome) (P : Value → Outcome → Type 0) → ((v : Value) → HasSome (P v)) → HasSome (OnOne x P)
some_on_one Out P f = (Out, refl)
some_on_one Undefined P f = (Undefined, refl)
some_on_one (Is v) P f = f v

some_on_both : (x y : Outcome) (P : Value → Value → Outcome → Type 0) → ((v w : Value) → HasSome (P v w)) → HasSome (OnBoth x y P)
some_on_both Out y P f = (Out, refl)
some_on_both x Out P f = (Out, refl)
some_on_both (Is v) (Is w) P f = f v w
some_on_both x y P f = (Undefined, refl)

pub some_on_several : (s : Several) (P : List Value → Outcome → Type 0) → ((vs : List Value) → HasSome (P vs)) → HasSome (OnSeveral s P)
some_on_several one_out P f = (Out, refl)
some_on_several one_undefined P f = (Undefined, refl)
some_on_several (values vs) P f = f vs

-- ---- sets of numbers

pub some_number_set : (n : Option ℕ) (s : Infinite) → HasSome (IsNumberSet n s)
some_number_set None s = (Out, refl)
some_number_set (Some n) s = numbers.some_interval (least s n) (pos n)

some_constant : (n : Option ℕ) (k : Constant) → HasSome (IsConstantOutcome n k)
some_constant n constants.True = (Undefined, refl)
some_constant n constants.False = (Undefined, refl)
some_constant n constants.Integers = some_number_set n Num
some_constant n constants.Naturals = some_number_set n Nat
some_constant n constants.Positives = some_number_set n Nat1

-- ---- terms

mutual
  pub some_outcome : (c : Context) (t : ResolvedTree) → HasSome (HasOutcome c t)
  some_outcome c (reference l r) = (outcome_in c r, refl)
  some_outcome c (number l n) = numbers.some_number (pos n)
  some_outcome c (constant l x) = some_constant c.environment.numbers x
  some_outcome c (empty_set l t) = (Is (SetOf []), refl)
  some_outcome c (bracket l t) = some_outcome c t
  some_outcome c (listed l form ts) = let s = some_several c ts in let o = some_on_several s.0 (ListedOutcome form) (some_listed form) in (o.0, (s.0, s.1, o.1))
  some_outcome c (comprehension l rs f t) =
      let s = some_ranges c rs in
      let o = some_built (λ vs u. IsConstraint (within c vs) f u) (λ vs x. Builds (within c vs) vs t x) (λ vs. some_constraint (within c vs) f)
      (λ vs. some_build (within c vs) vs t) (λ vs u w. one_constraint (within c vs) f u w) (λ vs x y. one_build (within c vs) vs t x y) s.0 in
      (o.0, (s.0, s.1, o.1))
  some_outcome c (unary l op t) = let x = some_outcome c t in let o = some_on_one x.0 (UnaryOutcome op) (some_unary op) in (o.0, (x.0, x.1, o.1))
  some_outcome c (binary l op a b) =
      let x = some_outcome c a in let y = some_outcome c b in let o = some_on_both x.0 y.0 (BinaryOutcome op) (some_binary op) in
      (o.0, (x.0, y.0, x.1, y.1, o.1))
  some_outcome c t = (Undefined, refl)

  some_several : (c : Context) (ts : ResolvedTrees) → HasSome (HaveOutcomes c ts)
  some_several c no_terms = (values [], refl)
  some_several c (term t ts) = let x = some_outcome c t in let r = some_several c ts in (one_more x.0 r.0, (x.0, r.0, x.1, r.1, refl))

  some_ranges : (c : Context) (rs : Ranges) → HasSome (HaveRanges c rs)
  some_ranges c no_ranges = (values [], refl)
  some_ranges c (range n t rs) = let x = some_outcome c t in let r = some_ranges c rs in (repeated n x.0 r.0, (x.0, r.0, x.1, r.1, refl))

  some_build : (c : Context) (vs : List Value) (t : ResolvedPart) → HasSome (Builds c vs t)
  some_build c vs absent = (Is (row_value vs), refl)
  some_build c vs (present t) = some_outcome c t

  some_constraint : (c : Context) (t : ResolvedPart) → HasSome (IsConstraint c t)
  some_constraint c absent = (truth.True, refl)
  some_constraint c (present t) = some_truth c t

  pub some_truth : (c : Context) (t : ResolvedTree) → HasSome (IsTruth c t)
  some_truth c (constant l x) = (constant_truth x, refl)
  some_truth c (bracket l t) = some_truth c t
  some_truth c (unary l the_unary.Not t) = some_opposite (λ p. IsTruth c t p) (some_truth c t)
  some_truth c (binary l (operator.Connective x) a b) = some_connected x (λ p. IsTruth c a p) (λ q. IsTruth c b q) (some_truth c a) (some_truth c b)
  some_truth c (chain l t ks) = let x = some_outcome c t in let u = some_linked c x.0 ks in (u.0, (x.0, x.1, u.1))
  some_truth c (quantified l q rs f t) =
      let s = some_ranges c rs in
      let u = some_quantified q s.0 (λ vs z. IsTold q (λ a. IsConstraint (within c vs) f a) (λ b. IsTruth (within c vs) t b) z)
      (λ vs. some_told_of q (λ a. IsConstraint (within c vs) f a) (λ b. IsTruth (within c vs) t b) (some_constraint (within c vs) f) (some_truth (within c vs) t))
      (λ vs m n. one_told_of q (λ a. IsConstraint (within c vs) f a) (λ b. IsTruth (within c vs) t b) (λ a b. one_constraint (within c vs) f a b) (λ a b. one_truth (within c vs) t a b) m n) in
      (u.0, (s.0, s.1, u.1))
  some_truth c t = (truth.False, refl)

  some_linked : (c : Context) (x : Outcome) (ks : ResolvedLinks) → HasSome (AreLinked c x ks)
  some_linked c x no_links = (truth.True, refl)
  some_linked c x (link r t ks) =
      let y = some_outcome c t in
      let u = some_conjunction (λ p. IsLink (infinite_right c r t) r x y.0 p) (λ q. AreLinked c y.0 ks q) (some_link (infinite_right c r t) r x y.0) (some_linked c y.0 ks) in
      (u.0, (y.0, y.1, u.1))
