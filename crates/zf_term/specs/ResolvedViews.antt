-- How the program's resolved terms are seen as those of `ResolvedTrees`.
use Rattle.std.specs.Prelude.{ℕ, List, [], ◌∷◌, Option, Some, None}
use Rattle.zf_tree.specs.declared.symbol.Relation.{Relation}
use Rattle.zf_term.specs.declared.resolved.Resolved.{Resolved}
use Rattle.zf_term.specs.declared.resolved.ResolvedLink.{ResolvedLink}
use Rattle.zf_term.specs.declared.resolved.Range.{Range}
use Rattle.zf_term.specs.declared.resolved.Resolved.TheOpen.{Resolved-F, ResolvedLink-F, Range-F}
use Rattle.zf_term.specs.declared.resolved.Resolved.TheFolds.{fold-Resolved, fold-ResolvedLink, fold-Range}
use Rattle.zf_term.specs.ResolvedTrees.{ResolvedTree, ResolvedTrees, ResolvedLinks, Ranges, ResolvedPart, reference, number, constant, empty_set, bracket, listed, comprehension, unary, binary, chain, quantified, no_terms, term, no_links, link, no_ranges, range, absent, present}

abbrev pub terms : List ResolvedTree → ResolvedTrees
terms [] = no_terms
terms (t ∷ ts) = term t (terms ts)

abbrev pub links : List (Relation × ResolvedTree) → ResolvedLinks
links [] = no_links
links (p ∷ ps) = link p.0 p.1 (links ps)

abbrev pub ranges : List (ℕ × ResolvedTree) → Ranges
ranges [] = no_ranges
ranges (p ∷ ps) = range p.0 p.1 (ranges ps)

abbrev pub part : Option ResolvedTree → ResolvedPart
part None = absent
part (Some t) = present t

-- one level, with a tree in the place of each term in it
abbrev pub resolved_step : Resolved-F ResolvedTree (ℕ × ResolvedTree) (Relation × ResolvedTree) → ResolvedTree
resolved_step (Resolved-F.Name l r) = reference l r
resolved_step (Resolved-F.Number l v) = number l v
resolved_step (Resolved-F.Constant l c) = constant l c
resolved_step (Resolved-F.EmptySet l t) = empty_set l t
resolved_step (Resolved-F.Bracket l t) = bracket l t
resolved_step (Resolved-F.Listed l form ts) = listed l form (terms ts)
resolved_step (Resolved-F.Comprehension l rs p t) = comprehension l (ranges rs) (part p) (part t)
resolved_step (Resolved-F.Unary l op t) = unary l op t
resolved_step (Resolved-F.Binary l op a b) = binary l op a b
resolved_step (Resolved-F.Chain l t ks) = chain l t (links ks)
resolved_step (Resolved-F.Quantified q l rs p t) = quantified l q (ranges rs) (part p) t

abbrev pub resolved_link_step : ResolvedLink-F ResolvedTree (ℕ × ResolvedTree) (Relation × ResolvedTree) → Relation × ResolvedTree
resolved_link_step k = (k.relation, k.right)

abbrev pub range_step : Range-F ResolvedTree (ℕ × ResolvedTree) (Relation × ResolvedTree) → ℕ × ResolvedTree
range_step r = (r.variables, r.set)

unfoldable pub resolved_of : Resolved → ResolvedTree
resolved_of = fold-Resolved ResolvedTree (ℕ × ResolvedTree) (Relation × ResolvedTree) resolved_step range_step resolved_link_step

unfoldable pub resolved_link_of : ResolvedLink → Relation × ResolvedTree
resolved_link_of = fold-ResolvedLink ResolvedTree (ℕ × ResolvedTree) (Relation × ResolvedTree) resolved_step range_step resolved_link_step

unfoldable pub range_of : Range → ℕ × ResolvedTree
range_of = fold-Range ResolvedTree (ℕ × ResolvedTree) (Relation × ResolvedTree) resolved_step range_step resolved_link_step

-- a part that may be left out, as a tree
abbrev pub part_of : Option Resolved → ResolvedPart
part_of None = absent
part_of (Some t) = present (resolved_of t)
