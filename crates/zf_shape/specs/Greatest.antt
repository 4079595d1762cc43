-- The greatest of the numbers that the names of a term have, form by form.
use Rattle.std.specs.Prelude.{ℕ, ◌+◌, max, Option, Some, None}
use Rattle.zf_reference.specs.declared.reference.Reference.{Reference}
use Rattle.zf_term.specs.{absent, binary, bracket, comprehension, chain, constant, empty_set, link, listed, no_links, no_ranges, no_terms, number, present, quantified, range, Ranges, reference, ResolvedLinks, ResolvedPart, ResolvedTree, term, unary}
use Rattle.zf_term.specs.ResolvedTrees.{ResolvedTrees}

-- a place as a number: places from 1, and 0 where there is none
abbrev pub place_after : Option ℕ → ℕ
place_after None = 0
place_after (Some i) = i + 1

abbrev mutual
  pub greatest : (Reference → ℕ) → ResolvedTree → ℕ
  greatest f (reference l r) = f r
  greatest f (number l n) = 0
  greatest f (constant l k) = 0
  greatest f (empty_set l t) = greatest f t
  greatest f (bracket l t) = greatest f t
  greatest f (listed l form ts) = all_greatest f ts
  greatest f (comprehension l rs p t) = max (max (ranges_greatest f rs) (part_greatest f p)) (part_greatest f t)
  greatest f (unary l op t) = greatest f t
  greatest f (binary l op a b) = max (greatest f a) (greatest f b)
  greatest f (chain l t ks) = max (greatest f t) (links_greatest f ks)
  greatest f (quantified l q rs p t) = max (max (ranges_greatest f rs) (part_greatest f p)) (greatest f t)

  pub all_greatest : (Reference → ℕ) → ResolvedTrees → ℕ
  all_greatest f no_terms = 0
  all_greatest f (term t ts) = max (greatest f t) (all_greatest f ts)

  pub links_greatest : (Reference → ℕ) → ResolvedLinks → ℕ
  links_greatest f no_links = 0
  links_greatest f (link r t ks) = max (greatest f t) (links_greatest f ks)

  pub ranges_greatest : (Reference → ℕ) → Ranges → ℕ
  ranges_greatest f no_ranges = 0
  ranges_greatest f (range n t rs) = max (greatest f t) (ranges_greatest f rs)

  pub part_greatest : (Reference → ℕ) → ResolvedPart → ℕ
  part_greatest f absent = 0
  part_greatest f (present t) = greatest f t
