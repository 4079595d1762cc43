-- What each form of term is seen as.
use Rattle.std.proofs.Common.{◌≡◌, ℕ, List, map, Option, Some, None, sym, ap, ◌∙◌}
use Rattle.zf_tree.specs.declared.symbol.Constant.{Constant}
use Rattle.zf_tree.specs.declared.symbol.Quantifier.{Quantifier}
use Rattle.zf_tree.specs.declared.symbol.Relation.{Relation}
use Rattle.zf_tree.specs.{binary, bracket, comprehension, chain, constant, decl_step, empty_set, Ident, link_of, link_step, links, listed, name_at, named, new_decl, new_link, numeral, part_of, quantified, Tree, tree_of, tree_step, trees, unary, var_decl_of, var_decls}
use Rattle.zf_tree.specs.declared.tree.Name.{Name}
use Rattle.zf_tree.specs.declared.span.Span.{Span}
use Rattle.zf_tree.specs.declared.operator.Listed.{Listed}
use Rattle.zf_tree.specs.declared.operator.Operator.{Operator}
use Rattle.zf_tree.specs.declared.operator.Unary.{Unary}
use Rattle.zf_tree.specs.declared.tree.Term.{Term}
use Rattle.zf_tree.specs.declared.tree.Link.{Link}
use Rattle.zf_tree.specs.declared.tree.VarDecl.{VarDecl}
use Rattle.zf_tree.specs.declared.tree.Term.TheOpen.{Term-F}
use Rattle.zf_tree.specs.declared.tree.Term.TheViews.{roll-Term}
use Rattle.zf_tree.specs.declared.tree.Term.TheVariants as v
use Rattle.zf_tree.specs.declared.tree.Term.TheFolds.{fold-roll-Term, fold-roll-Link, fold-roll-VarDecl, map-Term}

rolled : (x : Term-F Term Link VarDecl) → tree_of (roll-Term x) ≡ tree_step (map-Term Term Link VarDecl Tree (Relation × Tree) (List Name × Tree) tree_of link_of var_decl_of x)
unfolding tree_of link_of var_decl_of
rolled x = fold-roll-Term Tree (Relation × Tree) (List Name × Tree) tree_step link_step decl_step x

pub of-Name : (l : Span) (i : Ident) → tree_of (v.Name l i) ≡ named (name_at l i)
of-Name l i = ap tree_of (sym (v.rolls-Name l i)) ∙ rolled (Term-F.Name l i)

pub of-Number : (l : Span) (n : ℕ) → tree_of (v.Number l n) ≡ numeral l n
of-Number l n = ap tree_of (sym (v.rolls-Number l n)) ∙ rolled (Term-F.Number l n)

pub of-Constant : (l : Span) (c : Constant) → tree_of (v.Constant l c) ≡ constant l c
of-Constant l c = ap tree_of (sym (v.rolls-Constant l c)) ∙ rolled (Term-F.Constant l c)

pub of-EmptySet : (l : Span) (t : Term) → tree_of (v.EmptySet l t) ≡ empty_set l (tree_of t)
of-EmptySet l t = ap tree_of (sym (v.rolls-EmptySet l t)) ∙ rolled (Term-F.EmptySet l t)

pub of-Bracket : (l : Span) (t : Term) → tree_of (v.Bracket l t) ≡ bracket l (tree_of t)
of-Bracket l t = ap tree_of (sym (v.rolls-Bracket l t)) ∙ rolled (Term-F.Bracket l t)

pub of-Listed : (l : Span) (form : Listed) (ts : List Term) → tree_of (v.Listed l form ts) ≡ listed l form (trees (map tree_of ts))
of-Listed l form ts = ap tree_of (sym (v.rolls-Listed l form ts)) ∙ rolled (Term-F.Listed l form ts)

pub of-Comprehension : (l : Span) (ds : List VarDecl) (p t : Option Term) → tree_of (v.Comprehension l ds p t) ≡ comprehension l (var_decls (map var_decl_of ds)) (part_of p) (part_of t)
of-Comprehension l ds None None = ap tree_of (sym (v.rolls-Comprehension l ds None None)) ∙ rolled (Term-F.Comprehension l ds None None)
of-Comprehension l ds None (Some t) = ap tree_of (sym (v.rolls-Comprehension l ds None (Some t))) ∙ rolled (Term-F.Comprehension l ds None (Some t))
of-Comprehension l ds (Some p) None = ap tree_of (sym (v.rolls-Comprehension l ds (Some p) None)) ∙ rolled (Term-F.Comprehension l ds (Some p) None)
of-Comprehension l ds (Some p) (Some t) = ap tree_of (sym (v.rolls-Comprehension l ds (Some p) (Some t))) ∙ rolled (Term-F.Comprehension l ds (Some p) (Some t))

pub of-Unary : (l : Span) (op : Unary) (t : Term) → tree_of (v.Unary l op t) ≡ unary l op (tree_of t)
of-Unary l op t = ap tree_of (sym (v.rolls-Unary l op t)) ∙ rolled (Term-F.Unary l op t)

pub of-Binary : (l : Span) (op : Operator) (a b : Term) → tree_of (v.Binary l op a b) ≡ binary l op (tree_of a) (tree_of b)
of-Binary l op a b = ap tree_of (sym (v.rolls-Binary l op a b)) ∙ rolled (Term-F.Binary l op a b)

pub of-Chain : (l : Span) (t : Term) (ks : List Link) → tree_of (v.Chain l t ks) ≡ chain l (tree_of t) (links (map link_of ks))
of-Chain l t ks = ap tree_of (sym (v.rolls-Chain l t ks)) ∙ rolled (Term-F.Chain l t ks)

pub of-Quantified : (l : Span) (q : Quantifier) (ds : List VarDecl) (p : Option Term) (t : Term)
    → tree_of (v.Quantified q l ds p t) ≡ quantified l q (var_decls (map var_decl_of ds)) (part_of p) (tree_of t)
of-Quantified l q ds None t = ap tree_of (sym (v.rolls-Quantified q l ds None t)) ∙ rolled (Term-F.Quantified q l ds None t)
of-Quantified l q ds (Some p) t = ap tree_of (sym (v.rolls-Quantified q l ds (Some p) t)) ∙ rolled (Term-F.Quantified q l ds (Some p) t)

pub of-link : (r : Relation) (t : Term) → link_of (new_link r t) ≡ (r, tree_of t)
unfolding tree_of link_of
of-link r t = fold-roll-Link Tree (Relation × Tree) (List Name × Tree) tree_step link_step decl_step (record { relation = r; right = t })

pub of-decl : (ns : List Name) (t : Term) → var_decl_of (new_decl ns t) ≡ (ns, tree_of t)
unfolding tree_of var_decl_of
of-decl ns t = fold-roll-VarDecl Tree (Relation × Tree) (List Name × Tree) tree_step link_step decl_step (record { names = ns; set = t })

pub ruleset seen = (of-Name, of-Number, of-Constant, of-EmptySet, of-Bracket, of-Listed, of-Comprehension, of-Unary, of-Binary, of-Chain, of-Quantified)
