-- To number components anew is to rename them.
use Rattle.zf_resolved.proofs.Prelude.{◌≡◌, ℕ, ap, refl, absent, all_moved, binary, bracket, comprehension, chain, constant, empty_set, link, links_moved, listed, moved, no_links, no_ranges, no_terms, number, part_moved, present, quantified, range, Ranges, ranges_moved, reference, ResolvedLinks, ResolvedPart, ResolvedTree, term, unary, all_renamed, links_renamed, part_renamed, ranges_renamed, renamed}
use Rattle.zf_reference.specs.{renumbered}
use Rattle.zf_term.specs.ResolvedTrees.{ResolvedTrees}

mutual
  pub of_term : (f : ℕ → ℕ) (t : ResolvedTree) → renamed (renumbered f) t ≡ moved f t
  of_term f (reference l r) = refl
  of_term f (number l v) = refl
  of_term f (constant l c) = refl
  of_term f (empty_set l t) = ap (empty_set l) (of_term f t)
  of_term f (bracket l t) = ap (bracket l) (of_term f t)
  of_term f (listed l form ts) = ap (listed l form) (of_terms f ts)
  of_term f (comprehension l rs p t) = let a = of_ranges f rs in let b = of_part f p in let c = of_part f t in (cc)
  of_term f (unary l op t) = ap (unary l op) (of_term f t)
  of_term f (binary l op a b) = let c = of_term f a in let d = of_term f b in (cc)
  of_term f (chain l t ks) = let a = of_term f t in let b = of_links f ks in (cc)
  of_term f (quantified l q rs p t) = let a = of_ranges f rs in let b = of_part f p in let c = of_term f t in (cc)

  of_terms : (f : ℕ → ℕ) (ts : ResolvedTrees) → all_renamed (renumbered f) ts ≡ all_moved f ts
  of_terms f no_terms = refl
  of_terms f (term t ts) = let a = of_term f t in let b = of_terms f ts in (cc)

  of_links : (f : ℕ → ℕ) (ks : ResolvedLinks) → links_renamed (renumbered f) ks ≡ links_moved f ks
  of_links f no_links = refl
  of_links f (link r t ks) = let a = of_term f t in let b = of_links f ks in (cc)

  of_ranges : (f : ℕ → ℕ) (rs : Ranges) → ranges_renamed (renumbered f) rs ≡ ranges_moved f rs
  of_ranges f no_ranges = refl
  of_ranges f (range n t rs) = let a = of_term f t in let b = of_ranges f rs in (cc)

  of_part : (f : ℕ → ℕ) (p : ResolvedPart) → part_renamed (renumbered f) p ≡ part_moved f p
  of_part f absent = refl
  of_part f (present t) = ap present (of_term f t)
