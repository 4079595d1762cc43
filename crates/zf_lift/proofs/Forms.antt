-- Terms of one form mean the same where their parts do.
use Rattle.zf_lift.proofs.Prelude.{◌↔◌, ◌≡◌, ap, List, None, Option, refl, subst, sym, ℕ, if◌then◌else◌, Reference, Outcome, Truth, Value, Listed, Operator, Unary, Constant, Quantifier, Relation, absent, binary, bracket, comprehension, chain, constant, empty_set, link, listed, no_links, no_ranges, no_terms, number, present, quantified, range, Ranges, reference, ResolvedLinks, ResolvedPart, ResolvedTree, ResolvedTrees, term, unary, Infinite, direct, is_membership, Context, outcome_in, within, AreLinked, Builds, HasOutcome, infinite_right, IsConstraint, IsLink, IsTruth, IsTold, opposite, AreSame, AreSameLinks, AreSameRanges, IsSame, IsSamePart, constant_set, HaveRanges, IsConstantOutcome, unended, one_out, one_undefined, repeated, Several, values, ◌+◌, ◌++◌, [], length, replicate, ◌∙◌, arith, length-append, length-replicate, variables_of, Span}
use Rattle.zf_tree.specs.declared.operator.Operator.TheVariants as operator
use Rattle.zf_tree.specs.declared.operator.Unary.TheVariants as the_unary
use Rattle.zf_value.specs.declared.value.Outcome.TheVariants.{Is, Undefined, Out}
use Rattle.zf_meaning.proofs.Early.{from_length}
use Rattle.zf_lift.proofs.Mapped as mapped
use Rattle.zf_lift.proofs.Mapped.{IsFrom}

itself : (X : Type 0) → X ↔ X
itself X = (λ x. x, λ x. x)

back : (X Y : Type 0) → X ↔ Y → Y ↔ X
back X Y h = (h.1, h.0)

pub opposite_way : (c : Context) (t : ResolvedTree) (d : Context) (u : ResolvedTree) → IsSame c t d u → IsSame d u c t
opposite_way c t d u h = record { outcome = λ o. ((h.outcome o).1, (h.outcome o).0); truth = λ a. ((h.truth a).1, (h.truth a).0); infinite = sym h.infinite }

-- ---- forms without parts

pub same_reference : (c d : Context) (l : Span) (r : Reference) → outcome_in c r ≡ outcome_in d r → c.environment.globals ≡ d.environment.globals
    → c.environment.numbers ≡ d.environment.numbers → IsSame c (reference l r) d (reference l r)
same_reference c d l r e g m = record {
  outcome = λ o. (λ x. subst (λ y. o ≡ y) e x, λ x. subst (λ y. o ≡ y) (sym e) x);
  truth = λ a. (λ x. x, λ x. x);
  infinite = λ i. unended (direct (g i) (reference l r)) (m i);
}

pub same_number : (c d : Context) (l : Span) (n : ℕ) → IsSame c (number l n) d (number l n)
same_number c d l n = record { outcome = λ o. (λ x. x, λ x. x); truth = λ a. (λ x. x, λ x. x); infinite = refl }

pub same_constant : (c d : Context) (l : Span) (k : Constant) → c.environment.numbers ≡ d.environment.numbers → IsSame c (constant l k) d (constant l k)
same_constant c d l k m = record {
  outcome = λ o. (λ x. subst (λ n. IsConstantOutcome n k o) m x, λ x. subst (λ n. IsConstantOutcome n k o) (sym m) x);
  truth = λ a. (λ x. x, λ x. x);
  infinite = ap (λ n. unended (constant_set k) n) m;
}

pub same_empty_set : (c d : Context) (l : Span) (t u : ResolvedTree) → IsSame c (empty_set l t) d (empty_set l u)
same_empty_set c d l t u = record { outcome = λ o. (λ x. x, λ x. x); truth = λ a. (λ x. x, λ x. x); infinite = refl }

-- ---- forms with operands

pub same_bracket : (c d : Context) (l : Span) (t u : ResolvedTree) → IsSame c t d u → IsSame c (bracket l t) d (bracket l u)
same_bracket c d l t u h = record { outcome = h.outcome; truth = h.truth; infinite = h.infinite }

pub same_listed : (c d : Context) (l : Span) (form : Listed) (ts us : ResolvedTrees) → AreSame c ts d us → IsSame c (listed l form ts) d (listed l form us)
same_listed c d l form ts us h = record {
  outcome = λ o. (λ x. (x.0, (h x.0).0 x.1, x.2), λ x. (x.0, (h x.0).1 x.1, x.2));
  truth = λ a. (λ x. x, λ x. x);
  infinite = refl;
}

unary_outcome : (c d : Context) (l : Span) (op : Unary) (t u : ResolvedTree) → IsSame c t d u → (o : Outcome) → HasOutcome c (unary l op t) o → HasOutcome d (unary l op u) o
unary_outcome c d l op t u h o x = (x.0, (h.outcome x.0).0 x.1, x.2)

unary_truth : (c d : Context) (l : Span) (op : Unary) (t u : ResolvedTree) → IsSame c t d u → (a : Truth) → IsTruth c (unary l op t) a → IsTruth d (unary l op u) a
unary_truth c d l the_unary.Not t u h a x = (h.truth (opposite a)).0 x
unary_truth c d l (the_unary.Sign s) t u h a x = x
unary_truth c d l the_unary.Inverse t u h a x = x

pub same_unary : (c d : Context) (l : Span) (op : Unary) (t u : ResolvedTree) → IsSame c t d u → IsSame c (unary l op t) d (unary l op u)
same_unary c d l op t u h = let k = opposite_way c t d u h in record {
  outcome = λ o. (unary_outcome c d l op t u h o, unary_outcome d c l op u t k o);
  truth = λ a. (unary_truth c d l op t u h a, unary_truth d c l op u t k a);
  infinite = refl;
}

binary_outcome : (c d : Context) (l : Span) (op : Operator) (t u v w : ResolvedTree) → IsSame c t d v → IsSame c u d w → (o : Outcome)
    → HasOutcome c (binary l op t u) o → HasOutcome d (binary l op v w) o
binary_outcome c d l op t u v w h k o x = (x.0, x.1, (h.outcome x.0).0 x.2, (k.outcome x.1).0 x.3, x.4)

binary_truth : (c d : Context) (l : Span) (op : Operator) (t u v w : ResolvedTree) → IsSame c t d v → IsSame c u d w → (a : Truth) → IsTruth c (binary l op t u) a → IsTruth d (binary l op v w) a
binary_truth c d l (operator.Connective n) t u v w h k a x = mapped.connected n (IsTruth c t) (IsTruth c u) (IsTruth d v) (IsTruth d w) (λ p. (h.truth p).0) (λ p. (k.truth p).0) a x
binary_truth c d l (operator.Function n) t u v w h k a x = x
binary_truth c d l (operator.Generic n) t u v w h k a x = x
binary_truth c d l operator.Application t u v w h k a x = x
binary_truth c d l operator.Image t u v w h k a x = x

pub same_binary : (c d : Context) (l : Span) (op : Operator) (t u v w : ResolvedTree) → IsSame c t d v → IsSame c u d w → IsSame c (binary l op t u) d (binary l op v w)
same_binary c d l op t u v w h k = let i = opposite_way c t d v h in let j = opposite_way c u d w k in record {
  outcome = λ o. (binary_outcome c d l op t u v w h k o, binary_outcome d c l op v w t u i j o);
  truth = λ a. (binary_truth c d l op t u v w h k a, binary_truth d c l op v w t u i j a);
  infinite = refl;
}

pub same_chain : (c d : Context) (l : Span) (t u : ResolvedTree) (ks ls : ResolvedLinks) → IsSame c t d u → AreSameLinks c ks d ls → IsSame c (chain l t ks) d (chain l u ls)
same_chain c d l t u ks ls h k = record {
  outcome = λ o. (λ x. x, λ x. x);
  truth = λ a. (λ x. (x.0, (h.outcome x.0).0 x.1, (k x.0 a).0 x.2), λ x. (x.0, (h.outcome x.0).1 x.1, (k x.0 a).1 x.2));
  infinite = refl;
}

-- ---- forms that bind

repeated_length : (n m : ℕ) (x : Outcome) (r : Several) (ss : List Value) → values ss ≡ repeated n x r → ((ws : List Value) → r ≡ values ws → length ws ≡ m) → length ss ≡ n + m
repeated_length n m Out r ss e h = absurd (cc)
repeated_length n m Undefined one_out ss e h = absurd (cc)
repeated_length n m Undefined one_undefined ss e h = absurd (cc)
repeated_length n m Undefined (values ws) ss e h = absurd (cc)
repeated_length n m (Is v) one_out ss e h = absurd (cc)
repeated_length n m (Is v) one_undefined ss e h = absurd (cc)
repeated_length n m (Is v) (values ws) ss e h =
    let all : ss ≡ replicate n v ++ ws = (cc) in
    omega (arith, ap length all, length-append (replicate n v) ws, length-replicate n v, h ws refl)

ranges_length : (c : Context) (rs : Ranges) (ss : List Value) → HaveRanges c rs (values ss) → length ss ≡ variables_of rs
ranges_length c no_ranges ss h = let none : ss ≡ [] = (cc) in ap length none
ranges_length c (range n t rs) ss h = repeated_length n (variables_of rs) h.0 h.1 ss h.4 (λ ws e. ranges_length c rs ws (subst (HaveRanges c rs) e h.3))

-- a row of ranges has a value for each of their variables
row_length : (c : Context) (rs : Ranges) (s : Several) → HaveRanges c rs s → (vs : List Value) → IsFrom s vs → length vs ≡ variables_of rs
row_length c rs one_out h vs f = absurd f
row_length c rs one_undefined h vs f = absurd f
row_length c rs (values ss) h vs f = from_length ss vs f ∙ ranges_length c rs ss h

-- what holds after so many variables of a binder
abbrev pub Inside : ℕ → Context → Context → (Context → Context → Type 0) → Type 0
Inside n c d P = (vs : List Value) → length vs ≡ n → P (within c vs) (within d vs)

rows_told : (c d : Context) (q : Quantifier) (p r : ResolvedPart) (t u : ResolvedTree) → IsSamePart c p d r → IsSame c t d u → (w : Truth)
    → IsTold q (IsConstraint c p) (IsTruth c t) w → IsTold q (IsConstraint d r) (IsTruth d u) w
rows_told c d q p r t u h k w x =
    mapped.told q (IsConstraint c p) (IsTruth c t) (IsConstraint d r) (IsTruth d u) (λ a. (h.constraint a).0) (λ b. (k.truth b).0) w x

other_part : (c d : Context) (p r : ResolvedPart) → IsSamePart c p d r → IsSamePart d r c p
other_part c d p r h = record { constraint = λ a. ((h.constraint a).1, (h.constraint a).0); builds = λ vs o. ((h.builds vs o).1, (h.builds vs o).0) }

quantified_truth : (c d : Context) (l : Span) (n : ℕ) (q : Quantifier) (rs ss : Ranges) (p r : ResolvedPart) (t u : ResolvedTree)
    → ((s : Several) → HaveRanges c rs s → (vs : List Value) → IsFrom s vs → length vs ≡ n) → AreSameRanges c rs d ss
    → Inside n c d (λ x y. IsSamePart x p y r) → Inside n c d (λ x y. IsSame x t y u)
    → (a : Truth) → IsTruth c (quantified l q rs p t) a → IsTruth d (quantified l q ss r u) a
quantified_truth c d l n q rs ss p r t u sized g h k a x = (
  x.0,
  (g x.0).0 x.1,
  mapped.quantified q x.0 (λ vs w. IsTold q (λ a. IsConstraint (within c vs) p a) (λ b. IsTruth (within c vs) t b) w)
      (λ vs w. IsTold q (λ a. IsConstraint (within d vs) r a) (λ b. IsTruth (within d vs) u b) w)
      (λ vs w f. let o = sized x.0 x.1 vs f in rows_told (within c vs) (within d vs) q p r t u (h vs o) (k vs o) w)
      (λ vs w f. let o = sized x.0 x.1 vs f in rows_told (within d vs) (within c vs) q r p u t
      (other_part (within c vs) (within d vs) p r (h vs o)) (opposite_way (within c vs) t (within d vs) u (k vs o)) w)
      a x.2,
)

pub same_quantified : (c d : Context) (l : Span) (q : Quantifier) (rs ss : Ranges) (p r : ResolvedPart) (t u : ResolvedTree) → AreSameRanges c rs d ss
    → Inside (variables_of ss) c d (λ x y. IsSamePart x p y r) → Inside (variables_of ss) c d (λ x y. IsSame x t y u)
    → IsSame c (quantified l q rs p t) d (quantified l q ss r u)
same_quantified c d l q rs ss p r t u g h k = record {
  outcome = λ o. (λ x. x, λ x. x);
  truth = λ a. (
    quantified_truth c d l (variables_of ss) q rs ss p r t u (λ s x. row_length d ss s ((g s).0 x)) g h k a,
    quantified_truth d c l (variables_of ss) q ss rs r p u t (row_length d ss) (λ s. ((g s).1, (g s).0))
        (λ vs o. other_part (within c vs) (within d vs) p r (h vs o)) (λ vs o. opposite_way (within c vs) t (within d vs) u (k vs o)) a,
  );
  infinite = refl;
}

comprehension_outcome : (c d : Context) (l : Span) (n : ℕ) (rs ss : Ranges) (p r t u : ResolvedPart)
    → ((s : Several) → HaveRanges c rs s → (vs : List Value) → IsFrom s vs → length vs ≡ n) → AreSameRanges c rs d ss
    → Inside n c d (λ x y. IsSamePart x p y r) → Inside n c d (λ x y. IsSamePart x t y u)
    → (o : Outcome) → HasOutcome c (comprehension l rs p t) o → HasOutcome d (comprehension l ss r u) o
comprehension_outcome c d l n rs ss p r t u sized g h k o x = (
  x.0,
  (g x.0).0 x.1,
  mapped.built x.0 (λ vs a. IsConstraint (within c vs) p a) (λ vs a. IsConstraint (within d vs) r a) (λ vs z. Builds (within c vs) vs t z) (λ vs z. Builds (within d vs) vs u z)
      (record { filter = λ vs f a. (h vs (sized x.0 x.1 vs f)).constraint a; term = λ vs f z. (k vs (sized x.0 x.1 vs f)).builds vs z }) o x.2,
)

pub same_comprehension : (c d : Context) (l : Span) (rs ss : Ranges) (p r t u : ResolvedPart) → AreSameRanges c rs d ss
    → Inside (variables_of ss) c d (λ x y. IsSamePart x p y r) → Inside (variables_of ss) c d (λ x y. IsSamePart x t y u)
    → IsSame c (comprehension l rs p t) d (comprehension l ss r u)
same_comprehension c d l rs ss p r t u g h k = record {
  outcome = λ o. (
    comprehension_outcome c d l (variables_of ss) rs ss p r t u (λ s x. row_length d ss s ((g s).0 x)) g h k o,
    comprehension_outcome d c l (variables_of ss) ss rs r p u t (row_length d ss) (λ s. ((g s).1, (g s).0))
        (λ vs o. other_part (within c vs) (within d vs) p r (h vs o)) (λ vs o. other_part (within c vs) (within d vs) t u (k vs o)) o,
  );
  truth = λ a. (λ x. x, λ x. x);
  infinite = refl;
}

-- ---- parts

pub same_absent : (c d : Context) → IsSamePart c absent d absent
same_absent c d = record { constraint = λ a. (λ x. x, λ x. x); builds = λ vs o. (λ x. x, λ x. x) }

pub same_present : (c d : Context) (t u : ResolvedTree) → IsSame c t d u → IsSamePart c (present t) d (present u)
same_present c d t u h = record { constraint = h.truth; builds = λ vs o. h.outcome o }

-- ---- lists

pub same_no_terms : (c d : Context) → AreSame c no_terms d no_terms
same_no_terms c d = λ s. (λ x. x, λ x. x)

pub same_terms : (c d : Context) (t u : ResolvedTree) (ts us : ResolvedTrees) → IsSame c t d u → AreSame c ts d us → AreSame c (term t ts) d (term u us)
same_terms c d t u ts us h k = λ s. (
  λ x. (x.0, x.1, (h.outcome x.0).0 x.2, (k x.1).0 x.3, x.4),
  λ x. (x.0, x.1, (h.outcome x.0).1 x.2, (k x.1).1 x.3, x.4),
)

pub same_no_ranges : (c d : Context) → AreSameRanges c no_ranges d no_ranges
same_no_ranges c d = λ s. (λ x. x, λ x. x)

pub same_ranges : (c d : Context) (n : ℕ) (t u : ResolvedTree) (rs ss : Ranges) → IsSame c t d u → AreSameRanges c rs d ss → AreSameRanges c (range n t rs) d (range n u ss)
same_ranges c d n t u rs ss h k = λ s. (
  λ x. (x.0, x.1, (h.outcome x.0).0 x.2, (k x.1).0 x.3, x.4),
  λ x. (x.0, x.1, (h.outcome x.0).1 x.2, (k x.1).1 x.3, x.4),
)

pub same_no_links : (c d : Context) → AreSameLinks c no_links d no_links
same_no_links c d = λ x a. (λ y. y, λ y. y)

link_truth : (c d : Context) (r : Relation) (t u : ResolvedTree) (ks ls : ResolvedLinks) → IsSame c t d u → AreSameLinks c ks d ls → (x : Outcome) (a : Truth)
    → AreLinked c x (link r t ks) a → AreLinked d x (link r u ls) a
link_truth c d r t u ks ls h k x a y =
    let e : infinite_right c r t ≡ infinite_right d r u = ap (λ (z : Option Infinite). if is_membership r then z else None) h.infinite in (
      y.0,
      (h.outcome y.0).0 y.1,
      mapped.conjunction (λ p. IsLink (infinite_right c r t) r x y.0 p) (λ q. AreLinked c y.0 ks q) (λ p. IsLink (infinite_right d r u) r x y.0 p) (λ q. AreLinked d y.0 ls q)
          (λ p z. subst (λ i. IsLink i r x y.0 p) e z) (λ q. (k y.0 q).0) a y.2,
    )

pub same_links : (c d : Context) (r : Relation) (t u : ResolvedTree) (ks ls : ResolvedLinks) → IsSame c t d u → AreSameLinks c ks d ls → AreSameLinks c (link r t ks) d (link r u ls)
same_links c d r t u ks ls h k = λ x a. (
  link_truth c d r t u ks ls h k x a,
  link_truth d c r u t ls ks (opposite_way c t d u h) (λ y b. ((k y b).1, (k y b).0)) x a,
)
