-- What each form of resolved term is seen as.
use Rattle.zf_tree.specs.declared.span.Span.{Span}
use Rattle.zf_term.proofs.Prelude.{◌∙◌, ◌≡◌, ap, List, map, None, Option, Some, sym, ℕ, Reference, Relation, binary, bracket, comprehension, chain, constant, empty_set, links, listed, number, part_of, quantified, range_step, ranges, reference, resolved_link_step, resolved_step, ResolvedTree, terms, unary, range_of, resolved_link_of, resolved_of, Range, Resolved, fold-roll-Range, fold-roll-Resolved, fold-roll-ResolvedLink, map-Resolved, Resolved-F, out-Resolved, roll-out-Resolved, roll-Range, roll-Resolved, roll-ResolvedLink, ResolvedLink}
use Rattle.zf_tree.specs.declared.symbol.Constant.{Constant}
use Rattle.zf_tree.specs.declared.symbol.Quantifier.{Quantifier}
use Rattle.zf_tree.specs.declared.operator.Listed.{Listed}
use Rattle.zf_tree.specs.declared.operator.Operator.{Operator}
use Rattle.zf_tree.specs.declared.operator.Unary.{Unary}
use Rattle.zf_term.specs.declared.resolved.Resolved.TheVariants as v

abbrev pub new_link : Relation → Resolved → ResolvedLink
new_link r t = roll-ResolvedLink (record { relation = r; right = t })

abbrev pub new_range : ℕ → Resolved → Range
new_range n t = roll-Range (record { variables = n; set = t })

-- one level of a term, seen
abbrev pub form_of : Resolved-F Resolved Range ResolvedLink → ResolvedTree
form_of x = resolved_step (map-Resolved Resolved Range ResolvedLink ResolvedTree (ℕ × ResolvedTree) (Relation × ResolvedTree) resolved_of range_of resolved_link_of x)

pub rolled : (x : Resolved-F Resolved Range ResolvedLink) → resolved_of (roll-Resolved x) ≡ form_of x
unfolding resolved_of range_of resolved_link_of
rolled x = fold-roll-Resolved ResolvedTree (ℕ × ResolvedTree) (Relation × ResolvedTree) resolved_step range_step resolved_link_step x

pub of-Name : (l : Span) (r : Reference) → resolved_of (v.Name l r) ≡ reference l r
of-Name l r = ap resolved_of (sym (v.rolls-Name l r)) ∙ rolled (Resolved-F.Name l r)

pub of-Number : (l : Span) (n : ℕ) → resolved_of (v.Number l n) ≡ number l n
of-Number l n = ap resolved_of (sym (v.rolls-Number l n)) ∙ rolled (Resolved-F.Number l n)

pub of-Constant : (l : Span) (c : Constant) → resolved_of (v.Constant l c) ≡ constant l c
of-Constant l c = ap resolved_of (sym (v.rolls-Constant l c)) ∙ rolled (Resolved-F.Constant l c)

pub of-EmptySet : (l : Span) (t : Resolved) → resolved_of (v.EmptySet l t) ≡ empty_set l (resolved_of t)
of-EmptySet l t = ap resolved_of (sym (v.rolls-EmptySet l t)) ∙ rolled (Resolved-F.EmptySet l t)

pub of-Bracket : (l : Span) (t : Resolved) → resolved_of (v.Bracket l t) ≡ bracket l (resolved_of t)
of-Bracket l t = ap resolved_of (sym (v.rolls-Bracket l t)) ∙ rolled (Resolved-F.Bracket l t)

pub of-Listed : (l : Span) (form : Listed) (ts : List Resolved) → resolved_of (v.Listed l form ts) ≡ listed l form (terms (map resolved_of ts))
of-Listed l form ts = ap resolved_of (sym (v.rolls-Listed l form ts)) ∙ rolled (Resolved-F.Listed l form ts)

pub of-Comprehension : (l : Span) (rs : List Range) (p t : Option Resolved) → resolved_of (v.Comprehension l rs p t) ≡ comprehension l (ranges (map range_of rs)) (part_of p) (part_of t)
of-Comprehension l rs None None = ap resolved_of (sym (v.rolls-Comprehension l rs None None)) ∙ rolled (Resolved-F.Comprehension l rs None None)
of-Comprehension l rs None (Some t) = ap resolved_of (sym (v.rolls-Comprehension l rs None (Some t))) ∙ rolled (Resolved-F.Comprehension l rs None (Some t))
of-Comprehension l rs (Some p) None = ap resolved_of (sym (v.rolls-Comprehension l rs (Some p) None)) ∙ rolled (Resolved-F.Comprehension l rs (Some p) None)
of-Comprehension l rs (Some p) (Some t) = ap resolved_of (sym (v.rolls-Comprehension l rs (Some p) (Some t))) ∙ rolled (Resolved-F.Comprehension l rs (Some p) (Some t))

pub of-Unary : (l : Span) (op : Unary) (t : Resolved) → resolved_of (v.Unary l op t) ≡ unary l op (resolved_of t)
of-Unary l op t = ap resolved_of (sym (v.rolls-Unary l op t)) ∙ rolled (Resolved-F.Unary l op t)

pub of-Binary : (l : Span) (op : Operator) (a b : Resolved) → resolved_of (v.Binary l op a b) ≡ binary l op (resolved_of a) (resolved_of b)
of-Binary l op a b = ap resolved_of (sym (v.rolls-Binary l op a b)) ∙ rolled (Resolved-F.Binary l op a b)

pub of-Chain : (l : Span) (t : Resolved) (ks : List ResolvedLink) → resolved_of (v.Chain l t ks) ≡ chain l (resolved_of t) (links (map resolved_link_of ks))
of-Chain l t ks = ap resolved_of (sym (v.rolls-Chain l t ks)) ∙ rolled (Resolved-F.Chain l t ks)

pub of-Quantified : (l : Span) (q : Quantifier) (rs : List Range) (p : Option Resolved) (t : Resolved)
    → resolved_of (v.Quantified q l rs p t) ≡ quantified l q (ranges (map range_of rs)) (part_of p) (resolved_of t)
of-Quantified l q rs None t = ap resolved_of (sym (v.rolls-Quantified q l rs None t)) ∙ rolled (Resolved-F.Quantified q l rs None t)
of-Quantified l q rs (Some p) t = ap resolved_of (sym (v.rolls-Quantified q l rs (Some p) t)) ∙ rolled (Resolved-F.Quantified q l rs (Some p) t)

pub of-link : (r : Relation) (t : Resolved) → resolved_link_of (new_link r t) ≡ (r, resolved_of t)
unfolding resolved_of resolved_link_of
of-link r t = fold-roll-ResolvedLink ResolvedTree (ℕ × ResolvedTree) (Relation × ResolvedTree) resolved_step range_step resolved_link_step (record { relation = r; right = t })

pub of-range : (n : ℕ) (t : Resolved) → range_of (new_range n t) ≡ (n, resolved_of t)
unfolding resolved_of range_of
of-range n t = fold-roll-Range ResolvedTree (ℕ × ResolvedTree) (Relation × ResolvedTree) resolved_step range_step resolved_link_step (record { variables = n; set = t })

pub ruleset seen = (of-Name, of-Number, of-Constant, of-EmptySet, of-Bracket, of-Listed, of-Comprehension, of-Unary, of-Binary, of-Chain, of-Quantified)

pub link-seen : (k : ResolvedLink) → resolved_link_of k ≡ (k.relation, resolved_of k.right)
link-seen k = of-link k.relation k.right

pub range-seen : (r : Range) → range_of r ≡ (r.variables, resolved_of r.set)
range-seen r = of-range r.variables r.set

pub ruleset parts_seen = (link-seen, range-seen)

-- any term, by the form that it has
pub opened : (t : Resolved) (x : Resolved-F Resolved Range ResolvedLink) → out-Resolved t ≡ x → t ≡ roll-Resolved x
opened t x e = sym (roll-out-Resolved t) ∙ ap roll-Resolved e
