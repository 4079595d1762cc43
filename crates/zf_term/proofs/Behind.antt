-- The references of a term after others are the others and then its own.
use Rattle.zf_term.proofs.Prelude.{◌++◌, ◌∙◌, ◌≡◌, [], ap, append_assoc, List, refl, sym, Reference, all_onto, links_onto, onto, part_onto, ranges_onto, absent, binary, bracket, comprehension, chain, constant, empty_set, link, listed, no_links, no_ranges, no_terms, number, present, quantified, range, Ranges, reference, ResolvedLinks, ResolvedPart, ResolvedTree, ResolvedTrees, term, unary}
use Rattle.std.proofs.lemmas.List.{append-nil}

seam : (rs xs zs : List Reference) {xs' ys ys' : List Reference} → xs' ≡ rs ++ xs → ys' ≡ xs' ++ zs → ys ≡ xs ++ zs → ys' ≡ rs ++ ys
seam rs xs zs one two three = two ∙ ap (λ us. us ++ zs) one ∙ append_assoc rs xs zs ∙ sym (ap (λ us. rs ++ us) three)

mutual
  pub onto_behind : (rs : List Reference) (t : ResolvedTree) → onto rs t ≡ rs ++ onto [] t
  onto_behind rs (reference l r) = refl
  onto_behind rs (number l v) = sym (append-nil rs)
  onto_behind rs (constant l c) = sym (append-nil rs)
  onto_behind rs (empty_set l t) = onto_behind rs t
  onto_behind rs (bracket l t) = onto_behind rs t
  onto_behind rs (listed l form ts) = all_onto_behind rs ts
  onto_behind rs (comprehension l ds p t) =
      seam _ _ _ (seam _ _ _ (ranges_onto_behind rs ds) (part_onto_behind (ranges_onto rs ds) p) (part_onto_behind (ranges_onto [] ds) p))
      (part_onto_behind (part_onto (ranges_onto rs ds) p) t) (part_onto_behind (part_onto (ranges_onto [] ds) p) t)
  onto_behind rs (unary l op t) = onto_behind rs t
  onto_behind rs (binary l op a b) = seam _ _ _ (onto_behind rs a) (onto_behind (onto rs a) b) (onto_behind (onto [] a) b)
  onto_behind rs (chain l t ks) = seam _ _ _ (onto_behind rs t) (links_onto_behind (onto rs t) ks) (links_onto_behind (onto [] t) ks)
  onto_behind rs (quantified l q ds p t) =
      seam _ _ _ (seam _ _ _ (ranges_onto_behind rs ds) (part_onto_behind (ranges_onto rs ds) p) (part_onto_behind (ranges_onto [] ds) p))
      (onto_behind (part_onto (ranges_onto rs ds) p) t) (onto_behind (part_onto (ranges_onto [] ds) p) t)

  pub all_onto_behind : (rs : List Reference) (ts : ResolvedTrees) → all_onto rs ts ≡ rs ++ all_onto [] ts
  all_onto_behind rs no_terms = sym (append-nil rs)
  all_onto_behind rs (term t ts) = seam _ _ _ (onto_behind rs t) (all_onto_behind (onto rs t) ts) (all_onto_behind (onto [] t) ts)

  pub links_onto_behind : (rs : List Reference) (ks : ResolvedLinks) → links_onto rs ks ≡ rs ++ links_onto [] ks
  links_onto_behind rs no_links = sym (append-nil rs)
  links_onto_behind rs (link r t ks) = seam _ _ _ (onto_behind rs t) (links_onto_behind (onto rs t) ks) (links_onto_behind (onto [] t) ks)

  pub ranges_onto_behind : (rs : List Reference) (ds : Ranges) → ranges_onto rs ds ≡ rs ++ ranges_onto [] ds
  ranges_onto_behind rs no_ranges = sym (append-nil rs)
  ranges_onto_behind rs (range n t ds) = seam _ _ _ (onto_behind rs t) (ranges_onto_behind (onto rs t) ds) (ranges_onto_behind (onto [] t) ds)

  pub part_onto_behind : (rs : List Reference) (p : ResolvedPart) → part_onto rs p ≡ rs ++ part_onto [] p
  part_onto_behind rs absent = sym (append-nil rs)
  part_onto_behind rs (present t) = onto_behind rs t
