-- Terms in which names become others.
use Rattle.std.specs.Prelude.{ℕ}
use Rattle.zf_tree.specs.declared.symbol.Relation.{Relation}
use Rattle.zf_reference.specs.declared.reference.Reference.{Reference}
use Rattle.zf_term.specs.{absent, binary, bracket, comprehension, chain, constant, empty_set, link, listed, no_links, no_ranges, no_terms, number, present, quantified, range, Ranges, reference, ResolvedLinks, ResolvedPart, ResolvedTree, term, unary}
use Rattle.zf_term.specs.ResolvedTrees.{ResolvedTrees}

abbrev mutual
  pub renamed : (Reference → Reference) → ResolvedTree → ResolvedTree
  renamed f (reference l r) = reference l (f r)
  renamed f (number l v) = number l v
  renamed f (constant l c) = constant l c
  renamed f (empty_set l t) = empty_set l (renamed f t)
  renamed f (bracket l t) = bracket l (renamed f t)
  renamed f (listed l form ts) = listed l form (all_renamed f ts)
  renamed f (comprehension l rs p t) = comprehension l (ranges_renamed f rs) (part_renamed f p) (part_renamed f t)
  renamed f (unary l op t) = unary l op (renamed f t)
  renamed f (binary l op a b) = binary l op (renamed f a) (renamed f b)
  renamed f (chain l t ks) = chain l (renamed f t) (links_renamed f ks)
  renamed f (quantified l q rs p t) = quantified l q (ranges_renamed f rs) (part_renamed f p) (renamed f t)

  pub all_renamed : (Reference → Reference) → ResolvedTrees → ResolvedTrees
  all_renamed f no_terms = no_terms
  all_renamed f (term t ts) = term (renamed f t) (all_renamed f ts)

  pub links_renamed : (Reference → Reference) → ResolvedLinks → ResolvedLinks
  links_renamed f no_links = no_links
  links_renamed f (link r t ks) = link r (renamed f t) (links_renamed f ks)

  pub ranges_renamed : (Reference → Reference) → Ranges → Ranges
  ranges_renamed f no_ranges = no_ranges
  ranges_renamed f (range n t rs) = range n (renamed f t) (ranges_renamed f rs)

  pub part_renamed : (Reference → Reference) → ResolvedPart → ResolvedPart
  part_renamed f absent = absent
  part_renamed f (present t) = present (renamed f t)

abbrev pub link_renamed : (Reference → Reference) → Relation × ResolvedTree → Relation × ResolvedTree
link_renamed f l = (l.0, renamed f l.1)

abbrev pub range_renamed : (Reference → Reference) → ℕ × ResolvedTree → ℕ × ResolvedTree
range_renamed f r = (r.0, renamed f r.1)
