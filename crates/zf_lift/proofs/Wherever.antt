-- Terms of one form are lifts, or closed, where their parts are.
use Rattle.zf_lift.proofs.Prelude.{◌++◌, ◌<◌, ◌↔◌, ◌∙◌, ◌∷◌, ◌≡◌, ◌≤◌, [], ap, arith, Bool, false, length, List, None, Option, refl, subst, sym, true, ℕ, Reference, Component, Global, Local, Outcome, Truth, Value, Listed, Operator, Unary, Constant, Quantifier, Relation, Defined, absent, binary, bracket, comprehension, chain, constant, empty_set, link, links, listed, number, present, quantified, range, Ranges, ranges, reference, ResolvedLinks, ResolvedPart, ResolvedTree, ResolvedTrees, terms, unary, extent_found, extent_set, Context, Environment, outcome_in, outcome_or, longer, HasOutcome, IsTruth, AreEach, IsLifted, IsLonger, at, is_liftable, AreLifts, AreLinkLifts, AreRangeLifts, IsClosed, IsLift, IsPartLift, AreAllLifts, IsLinkLift, IsRangeLift, IsLater, Lifts, Wherever, need, AreSameLinks, AreSameRanges, IsSame, IsSamePart, ◌&&◌, is_some, Some, true≢false, Infinite, constant_set, constant_truth, infinite_in, unended, ◌+◌, length-append, variables_of, Span}
use Rattle.zf_tree.specs.declared.symbol.Constant.TheVariants as constants
use Rattle.zf_tree.specs.declared.operator.Operator.TheVariants as operator
use Rattle.zf_tree.specs.declared.operator.Unary.TheVariants as the_unary
use Rattle.zf_value.specs.declared.value.Truth.TheVariants as truth
use Rattle.zf_meaning.proofs.Unique.{one_outcome}
unfoldable use Rattle.zf_meaning.specs.{IsBehind}
use Rattle.zf_lift.proofs.Needs.{uses_no_more}
use Rattle.zf_lift.proofs.Forms as forms
use Rattle.zf_lift.proofs.Longer as longer_ones

-- ---- in longer environments

pub itself : (f : Environment) (c : Bool) → IsLater f c f c
itself f c = (longer_ones.itself f, λ k. k)

pub still_later : (e f g : Environment) (b c d : Bool) → IsLater e b f c → IsLater f c g d → IsLater e b g d
still_later e f g b c d h k = (longer_ones.further e f g h.0 k.0, λ x. h.1 (k.1 x))

kept : (b m n : ℕ) (f g e : Environment) (c d : Bool) (P : Context → Context → Type 0) (Q : Type 0) → IsLater f c g d → Lifts c m n (Wherever b f e P) Q → Lifts d m n (Wherever b g e P) Q
kept b m n f g e c d P Q h x = record { needs = x.needs; same = longer_ones.later b f g e P h.0 x.same; closed = λ k. x.closed (h.1 k) }

pub lift_later : (b : ℕ) (f g e : Environment) (c d : Bool) (t u : ResolvedTree) → IsLater f c g d → IsLift b f e c t u → IsLift b g e d t u
unfolding IsLift
lift_later b f g e c d t u h x = kept b _ _ f g e c d (λ x y. IsSame x t y u) _ h x

pub range_later : (b : ℕ) (f g e : Environment) (c d : Bool) (p q : ℕ × ResolvedTree) → IsLater f c g d → IsRangeLift b f e c p q → IsRangeLift b g e d p q
range_later b f g e c d p q h x = (x.0, lift_later b f g e c d p.1 q.1 h x.1)

pub link_later : (b : ℕ) (f g e : Environment) (c d : Bool) (p q : Relation × ResolvedTree) → IsLater f c g d → IsLinkLift b f e c p q → IsLinkLift b g e d p q
link_later b f g e c d p q h x = (x.0, lift_later b f g e c d p.1 q.1 h x.1)

pub ranges_later : (b : ℕ) (f g e : Environment) (c d : Bool) (rs ss : Ranges) → IsLater f c g d → AreRangeLifts b f e c rs ss → AreRangeLifts b g e d rs ss
unfolding AreRangeLifts
ranges_later b f g e c d rs ss h x = kept b _ _ f g e c d (λ x y. AreSameRanges x rs y ss) _ h x

pub part_later : (b : ℕ) (f g e : Environment) (c d : Bool) (p q : ResolvedPart) → IsLater f c g d → IsPartLift b f e c p q → IsPartLift b g e d p q
unfolding IsPartLift
part_later b f g e c d p q h x = kept b _ _ f g e c d (λ x y. IsSamePart x p y q) _ h x

pub is_closed : (b : ℕ) (f e : Environment) (c : Bool) (t u : ResolvedTree) → IsLift b f e c t u → c ≡ true → IsClosed e u
unfolding IsLift IsClosed
is_closed b f e c t u h k = h.closed k

-- ---- names

same_named : (e g : Environment) (row locals : List Value) (r : Reference) → IsLonger e g → ((i : ℕ) → r ≡ Global i → i < length e.outcomes)
    → outcome_in (at g row locals) r ≡ outcome_in (at e row locals) r
same_named e g row locals (Component i) h k = refl
same_named e g row locals (Local i) h k = refl
same_named e g row locals (Global i) h k = ap outcome_or (longer_ones.same_outcome e g i (k i refl) h)

pub name_lift : (b : ℕ) (e f : Environment) (c : Bool) (l : Span) (r : Reference) → ((i : ℕ) → r ≡ Global i → i < length e.outcomes) → IsLonger e f
    → (c ≡ true → IsClosed e (reference l r)) → IsLift b f e c (reference l r) (reference l r)
unfolding IsLift IsClosed
name_lift b e f c l r k h closed = record {
  needs = omega arith;
  same = λ g x row locals o.
      let y = longer_ones.further e f g h x in
      forms.same_reference (at g row locals) (at e row locals) l r (same_named e g row locals r y k) (longer_ones.same_globals e g y) (longer_ones.same_numbers e g y);
  closed = closed;
}

pub local_closed : (e : Environment) (l : Span) (i : ℕ) → IsClosed e (reference l (Local i))
unfolding IsClosed
local_closed e l i row locals = forms.same_reference (at e [] locals) (at e row locals) l (Local i) refl refl refl

pub global_closed : (e : Environment) (l : Span) (i : ℕ) → IsClosed e (reference l (Global i))
unfolding IsClosed
global_closed e l i row locals = forms.same_reference (at e [] locals) (at e row locals) l (Global i) refl refl refl

-- ---- forms without parts

pub number_lift : (b : ℕ) (f e : Environment) (c : Bool) (l : Span) (n : ℕ) → IsLift b f e c (number l n) (number l n)
unfolding IsLift
number_lift b f e c l n = record {
  needs = omega arith;
  same = λ g x row locals o. forms.same_number (at g row locals) (at e row locals) l n;
  closed = λ z row locals. forms.same_number (at e [] locals) (at e row locals) l n;
}

pub constant_lift : (b : ℕ) (f e : Environment) (c : Bool) (l : Span) (k : Constant) → IsLonger e f → IsLift b f e c (constant l k) (constant l k)
unfolding IsLift
constant_lift b f e c l k h = record {
  needs = omega arith;
  same = λ g x row locals o. forms.same_constant (at g row locals) (at e row locals) l k (longer_ones.same_numbers e g (longer_ones.further e f g h x));
  closed = λ z row locals. forms.same_constant (at e [] locals) (at e row locals) l k refl;
}

pub empty_set_lift : (b : ℕ) (f e : Environment) (c : Bool) (l : Span) (t u : ResolvedTree) → need t ≤ need u → IsLift b f e c (empty_set l t) (empty_set l u)
unfolding IsLift
empty_set_lift b f e c l t u h = record {
  needs = h;
  same = λ g x row locals o. forms.same_empty_set (at g row locals) (at e row locals) l t u;
  closed = λ z row locals. forms.same_empty_set (at e [] locals) (at e row locals) l u u;
}

-- ---- forms with operands

-- without its brackets
pub inner_lift : (b : ℕ) (f e : Environment) (c : Bool) (l : Span) (t u : ResolvedTree) → IsLift b f e c t u → IsLift b f e c t (bracket l u)
unfolding IsLift
inner_lift b f e c l t u h = record {
  needs = h.needs;
  same = λ g x row locals o. let s = h.same g x row locals o in record { outcome = s.outcome; truth = s.truth; infinite = s.infinite };
  closed = λ z row locals. forms.same_bracket (at e [] locals) (at e row locals) l u u (h.closed z row locals);
}

pub listed_lift : (b : ℕ) (f e : Environment) (c : Bool) (l : Span) (form : Listed) (ts us : ResolvedTrees) → AreLifts b f e c ts us → IsLift b f e c (listed l form ts) (listed l form us)
unfolding IsLift AreLifts
listed_lift b f e c l form ts us h = record {
  needs = h.needs;
  same = λ g x row locals o. forms.same_listed (at g row locals) (at e row locals) l form ts us (h.same g x row locals o);
  closed = λ z row locals. forms.same_listed (at e [] locals) (at e row locals) l form us us (h.closed z row locals);
}

pub unary_lift : (b : ℕ) (f e : Environment) (c : Bool) (l : Span) (op : Unary) (t u : ResolvedTree) → IsLift b f e c t u → IsLift b f e c (unary l op t) (unary l op u)
unfolding IsLift
unary_lift b f e c l op t u h = record {
  needs = h.needs;
  same = λ g x row locals o. forms.same_unary (at g row locals) (at e row locals) l op t u (h.same g x row locals o);
  closed = λ z row locals. forms.same_unary (at e [] locals) (at e row locals) l op u u (h.closed z row locals);
}

pub binary_lift : (b : ℕ) (f e : Environment) (c : Bool) (l : Span) (op : Operator) (t u v w : ResolvedTree) → IsLift b f e c t v → IsLift b f e c u w
    → IsLift b f e c (binary l op t u) (binary l op v w)
unfolding IsLift
binary_lift b f e c l op t u v w h k = record {
  needs = omega (arith, h.needs, k.needs);
  same = λ g x row locals o. forms.same_binary (at g row locals)
      (at e row locals) l op t u v w (h.same g x row locals o) (k.same g x row locals o);
  closed = λ z row locals. forms.same_binary (at e [] locals) (at e row locals) l op v w v w (h.closed z row locals) (k.closed z row locals);
}

pub chain_lift : (b : ℕ) (f e : Environment) (c : Bool) (l : Span) (t u : ResolvedTree) (ks ls : ResolvedLinks) → IsLift b f e c t u → AreLinkLifts b f e c ks ls
    → IsLift b f e c (chain l t ks) (chain l u ls)
unfolding IsLift AreLinkLifts
chain_lift b f e c l t u ks ls h k = record {
  needs = omega (arith, h.needs, k.needs);
  same = λ g x row locals o. forms.same_chain (at g row locals)
      (at e row locals) l t u ks ls (h.same g x row locals o) (k.same g x row locals o);
  closed = λ z row locals. forms.same_chain (at e [] locals) (at e row locals) l u u ls ls (h.closed z row locals) (k.closed z row locals);
}

-- ---- forms that bind

inside : (locals vs : List Value) (b m : ℕ) → length locals ≡ b → length vs ≡ m → length (locals ++ vs) ≡ b + m
inside locals vs b m h k = omega (arith, length-append locals vs, h, k)

pub comprehension_lift : (b : ℕ) (f e : Environment) (c : Bool) (l : Span) (rs ss : Ranges) (p q t u : ResolvedPart) → AreRangeLifts b f e c rs ss
    → IsPartLift (b + variables_of ss) f e c p q → IsPartLift (b + variables_of ss) f e c t u → IsLift b f e c (comprehension l rs p t) (comprehension l ss q u)
unfolding IsLift AreRangeLifts IsPartLift
comprehension_lift b f e c l rs ss p q t u h k m = record {
  needs = omega (arith, h.needs, k.needs, m.needs);
  same = λ g x row locals o. forms.same_comprehension (at g row locals) (at e row locals) l rs ss p q t u (h.same g x row locals o)
      (λ vs w. k.same g x row (locals ++ vs) (inside locals vs b (variables_of ss) o w))
      (λ vs w. m.same g x row (locals ++ vs) (inside locals vs b (variables_of ss) o w));
  closed = λ z row locals. forms.same_comprehension (at e [] locals) (at e row locals) l ss ss q q u u (h.closed z row locals)
      (λ vs w. k.closed z row (locals ++ vs)) (λ vs w. m.closed z row (locals ++ vs));
}

pub quantified_lift : (b : ℕ) (f e : Environment) (c : Bool) (l : Span) (n : Quantifier) (rs ss : Ranges) (p q : ResolvedPart) (t u : ResolvedTree)
    → AreRangeLifts b f e c rs ss → IsPartLift (b + variables_of ss) f e c p q → IsLift (b + variables_of ss) f e c t u
    → IsLift b f e c (quantified l n rs p t) (quantified l n ss q u)
unfolding IsLift AreRangeLifts IsPartLift
quantified_lift b f e c l n rs ss p q t u h k m = record {
  needs = omega (arith, h.needs, k.needs, m.needs);
  same = λ g x row locals o. forms.same_quantified (at g row locals) (at e row locals) l n rs ss p q t u (h.same g x row locals o)
      (λ vs w. k.same g x row (locals ++ vs) (inside locals vs b (variables_of ss) o w))
      (λ vs w. m.same g x row (locals ++ vs) (inside locals vs b (variables_of ss) o w));
  closed = λ z row locals. forms.same_quantified (at e [] locals) (at e row locals) l n ss ss q q u u (h.closed z row locals)
      (λ vs w. k.closed z row (locals ++ vs)) (λ vs w. m.closed z row (locals ++ vs));
}

-- ---- parts

pub absent_lift : (b : ℕ) (f e : Environment) (c : Bool) → IsPartLift b f e c absent absent
unfolding IsPartLift
absent_lift b f e c = record {
  needs = omega arith;
  same = λ g x row locals o. forms.same_absent (at g row locals) (at e row locals);
  closed = λ z row locals. forms.same_absent (at e [] locals) (at e row locals);
}

pub present_lift : (b : ℕ) (f e : Environment) (c : Bool) (t u : ResolvedTree) → IsLift b f e c t u → IsPartLift b f e c (present t) (present u)
unfolding IsLift IsPartLift
present_lift b f e c t u h = record {
  needs = h.needs;
  same = λ g x row locals o. forms.same_present (at g row locals) (at e row locals) t u (h.same g x row locals o);
  closed = λ z row locals. forms.same_present (at e [] locals) (at e row locals) u u (h.closed z row locals);
}

-- ---- lists

pub terms_lift : (b : ℕ) (f e : Environment) (c : Bool) (ts us : List ResolvedTree) → AreAllLifts b f e c ts us → AreLifts b f e c (terms ts) (terms us)
unfolding IsLift AreLifts
terms_lift b f e c [] [] h = record {
  needs = omega arith;
  same = λ g x row locals o. forms.same_no_terms (at g row locals) (at e row locals);
  closed = λ z row locals. forms.same_no_terms (at e [] locals) (at e row locals);
}
terms_lift b f e c [] (u ∷ us) h = absurd h
terms_lift b f e c (t ∷ ts) [] h = absurd h
terms_lift b f e c (t ∷ ts) (u ∷ us) h =
    let rest = terms_lift b f e c ts us h.1 in
    record {
      needs = omega (arith, h.0.needs, rest.needs);
      same = λ g x row locals o. forms.same_terms (at g row locals) (at e row locals) t u (terms ts) (terms us) (h.0.same g x row locals o) (rest.same g x row locals o);
      closed = λ z row locals. forms.same_terms (at e [] locals) (at e row locals) u u (terms us) (terms us) (h.0.closed z row locals) (rest.closed z row locals);
    }

pub ranges_lift : (b : ℕ) (f e : Environment) (c : Bool) (rs ss : List (ℕ × ResolvedTree)) → AreEach (IsRangeLift b f e c) rs ss → AreRangeLifts b f e c (ranges rs) (ranges ss)
unfolding IsLift AreRangeLifts
ranges_lift b f e c [] [] h = record {
  needs = omega arith;
  same = λ g x row locals o. forms.same_no_ranges (at g row locals) (at e row locals);
  closed = λ z row locals. forms.same_no_ranges (at e [] locals) (at e row locals);
}
ranges_lift b f e c [] (s ∷ ss) h = absurd h
ranges_lift b f e c (r ∷ rs) [] h = absurd h
ranges_lift b f e c (r ∷ rs) (s ∷ ss) h =
    let first = h.0.1 in let rest = ranges_lift b f e c rs ss h.1 in
    record {
      needs = omega (arith, first.needs, rest.needs);
      same = λ g x row locals o. subst (λ n. AreSameRanges (at g row locals) (range r.0 r.1 (ranges rs)) (at e row locals) (range n s.1 (ranges ss))) h.0.0
          (forms.same_ranges (at g row locals) (at e row locals) r.0 r.1 s.1 (ranges rs) (ranges ss) (first.same g x row locals o) (rest.same g x row locals o));
      closed = λ z row locals. forms.same_ranges (at e [] locals) (at e row locals) s.0 s.1 s.1 (ranges ss) (ranges ss) (first.closed z row locals) (rest.closed z row locals);
    }

pub links_lift : (b : ℕ) (f e : Environment) (c : Bool) (ks ls : List (Relation × ResolvedTree)) → AreEach (IsLinkLift b f e c) ks ls → AreLinkLifts b f e c (links ks) (links ls)
unfolding IsLift AreLinkLifts
links_lift b f e c [] [] h = record {
  needs = omega arith;
  same = λ g x row locals o. forms.same_no_links (at g row locals) (at e row locals);
  closed = λ z row locals. forms.same_no_links (at e [] locals) (at e row locals);
}
links_lift b f e c [] (k ∷ ls) h = absurd h
links_lift b f e c (k ∷ ks) [] h = absurd h
links_lift b f e c (k ∷ ks) (m ∷ ls) h =
    let first = h.0.1 in let rest = links_lift b f e c ks ls h.1 in
    record {
      needs = omega (arith, first.needs, rest.needs);
      same = λ g x row locals o. subst (λ r. AreSameLinks (at g row locals) (link k.0 k.1 (links ks)) (at e row locals) (link r m.1 (links ls))) h.0.0
          (forms.same_links (at g row locals) (at e row locals) k.0 k.1 m.1 (links ks) (links ls) (first.same g x row locals o) (rest.same g x row locals o));
      closed = λ z row locals. forms.same_links (at e [] locals) (at e row locals) m.0 m.1 m.1 (links ls) (links ls) (first.closed z row locals) (rest.closed z row locals);
    }

-- ---- the name of what a closed part comes to

number_truth : (k : Constant) (b : Bool) → (b && is_some (constant_set k)) ≡ true → constant_truth k ≡ truth.False
number_truth constants.True true h = absurd (true≢false (sym h))
number_truth constants.True false h = absurd (true≢false (sym h))
number_truth constants.False b h = refl
number_truth constants.Integers b h = refl
number_truth constants.Naturals b h = refl
number_truth constants.Positives b h = refl

no_predicate : (n : Option ℕ) (c : Context) (t : ResolvedTree) (a : Truth) → is_liftable n t ≡ true → IsTruth c t a ↔ (a ≡ truth.False)
no_predicate n c (reference l r) a h = absurd (cc)
no_predicate n c (number l v) a h = absurd (cc)
no_predicate n c (constant l k) a h = let f = number_truth k (is_some n) h in (λ x. x ∙ f, λ x. x ∙ sym f)
no_predicate n c (empty_set l t) a h = (λ x. x, λ x. x)
no_predicate n c (bracket l t) a h = no_predicate n c t a h
no_predicate n c (listed l form ts) a h = (λ x. x, λ x. x)
no_predicate n c (comprehension l rs p t) a h = (λ x. x, λ x. x)
no_predicate n c (unary l the_unary.Not t) a h = absurd (cc)
no_predicate n c (unary l (the_unary.Sign s) t) a h = (λ x. x, λ x. x)
no_predicate n c (unary l the_unary.Inverse t) a h = (λ x. x, λ x. x)
no_predicate n c (binary l (operator.Connective k) u v) a h = absurd (cc)
no_predicate n c (binary l (operator.Function k) u v) a h = (λ x. x, λ x. x)
no_predicate n c (binary l (operator.Generic k) u v) a h = (λ x. x, λ x. x)
no_predicate n c (binary l operator.Application u v) a h = (λ x. x, λ x. x)
no_predicate n c (binary l operator.Image u v) a h = (λ x. x, λ x. x)
no_predicate n c (chain l t ks) a h = absurd (cc)
no_predicate n c (quantified l q rs p t) a h = absurd (cc)

ended : (d : Option Infinite) (n : Option ℕ) → (is_some n && is_some d) ≡ true → unended d n ≡ None
ended None n h = refl
ended (Some s) None h = absurd (true≢false (sym h))
ended (Some s) (Some n) h = refl

no_infinite : (e : Environment) (t : ResolvedTree) → is_liftable e.numbers t ≡ true → infinite_in e t ≡ None
no_infinite e (reference l r) h = absurd (cc)
no_infinite e (number l n) h = refl
no_infinite e (constant l k) h = ended (constant_set k) e.numbers h
no_infinite e (empty_set l t) h = refl
no_infinite e (bracket l t) h = no_infinite e t h
no_infinite e (listed l form ts) h = refl
no_infinite e (comprehension l rs p t) h = refl
no_infinite e (unary l op t) h = refl
no_infinite e (binary l op u v) h = refl
no_infinite e (chain l t ks) h = refl
no_infinite e (quantified l q rs p t) h = refl

found_none : (n : Option ℕ) (o : Option Defined) → o ≡ None → unended (extent_set (extent_found o)) n ≡ None
found_none n o h = ap (λ p. unended (extent_set (extent_found p)) n) h

pub named_lift : (b : ℕ) (e f g : Environment) (c : Bool) (l : Span) (t u : ResolvedTree) (x : Outcome) → IsLonger e f → length f.globals ≤ length f.outcomes
    → g ≡ longer f (x ∷ []) → is_liftable e.numbers u ≡ true → IsClosed e u → IsLift b f e c t u → IsBehind f [] b t x
    → IsLift b g e c (reference l (Global (length f.outcomes))) u
unfolding IsLift IsClosed IsBehind
named_lift b e f g c l t u x e-f behind is liftable closed lift has = record {
  needs = omega arith;
  closed = λ z. closed;
  same = λ h g-h row locals bound.
      let known : outcome_in (at h row locals) (Global (length f.outcomes)) ≡ x = ap outcome_or (longer_ones.new_outcome f g h x is g-h) in
      let bare : HasOutcome (at e [] locals) u x = ((lift.same f (longer_ones.itself f) [] locals bound).outcome x).0 (has locals bound) in
      let here : HasOutcome (at e row locals) u x = ((closed row locals).outcome x).0 bare in
      let f-h = longer_ones.further f g h (x ∷ [], is) g-h in
      record {
        outcome = λ o. (λ y. subst (λ z. HasOutcome (at e row locals) u z) (sym (y ∙ known)) here, λ y. one_outcome (at e row locals) u o x y here ∙ sym known);
        truth = λ a. (λ y. (no_predicate e.numbers (at e row locals) u a liftable).1 y, λ y. (no_predicate e.numbers (at e row locals) u a liftable).0 y);
        infinite = found_none h.numbers _ (longer_ones.no_global f h (length f.outcomes) behind f-h) ∙ sym (no_infinite e u liftable);
      };
}

-- a lift outside binders has the truths of its term, and uses no more components
pub is_lifted : (f e : Environment) (c : Bool) (t u : ResolvedTree) → IsLift 0 f e c t u → IsLifted f e t u
unfolding IsLift
is_lifted f e c t u h = record {
  same = λ row a. (h.same f (longer_ones.itself f) row [] refl).truth a;
  uses = uses_no_more t u h.needs;
}
