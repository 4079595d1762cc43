-- What the names of a resolved term stand for, from left to right, after others.
use Rattle.std.specs.Prelude.{List, [], ◌∷◌, ◌++◌}
use Rattle.zf_reference.specs.declared.reference.Reference.{Reference}
use Rattle.zf_term.specs.ResolvedTrees.{ResolvedTree, reference, empty_set, bracket, listed, comprehension, unary, binary, chain, quantified, ResolvedTrees, no_terms, term, ResolvedLinks, no_links, link, Ranges, no_ranges, range, ResolvedPart, absent, present}

abbrev mutual
  pub onto : List Reference → ResolvedTree → List Reference
  onto rs (reference l r) = rs ++ r ∷ []
  onto rs (empty_set l t) = onto rs t
  onto rs (bracket l t) = onto rs t
  onto rs (listed l form ts) = all_onto rs ts
  onto rs (comprehension l ds p t) = part_onto (part_onto (ranges_onto rs ds) p) t
  onto rs (unary l op t) = onto rs t
  onto rs (binary l op a b) = onto (onto rs a) b
  onto rs (chain l t ks) = links_onto (onto rs t) ks
  onto rs (quantified l q ds p t) = onto (part_onto (ranges_onto rs ds) p) t
  onto rs _ = rs

  pub all_onto : List Reference → ResolvedTrees → List Reference
  all_onto rs no_terms = rs
  all_onto rs (term t ts) = all_onto (onto rs t) ts

  pub links_onto : List Reference → ResolvedLinks → List Reference
  links_onto rs no_links = rs
  links_onto rs (link r t ks) = links_onto (onto rs t) ks

  pub ranges_onto : List Reference → Ranges → List Reference
  ranges_onto rs no_ranges = rs
  ranges_onto rs (range n t ds) = ranges_onto (onto rs t) ds

  pub part_onto : List Reference → ResolvedPart → List Reference
  part_onto rs absent = rs
  part_onto rs (present t) = onto rs t

-- what the names of a term stand for, from left to right
abbrev pub references : ResolvedTree → List Reference
references t = onto [] t
