-- In a term whose components are numbered anew the same offends.
use Rattle.zf_extent.proofs.Prelude.{◌≡◌, ℕ, List, None, ◌&&◌, if◌then◌else◌, refl, ap, ◌∙◌, absent, all_moved, binary, bracket, comprehension, chain, constant, Defined, empty_set, link, links_moved, listed, moved, no_links, no_ranges, no_terms, number, part_moved, present, quantified, range, Ranges, ranges_moved, reference, ResolvedLinks, ResolvedPart, ResolvedTree, term, unary, all_offending, direct, extent_named, extent_set, is_last, is_membership, links_offending, name_offenders, offending, part_offending, ranges_offending, tested, Span}
use Rattle.zf_tree.specs.declared.symbol.Relation.{Relation}
use Rattle.zf_reference.specs.declared.reference.Reference.{Reference}
use Rattle.zf_reference.specs.declared.reference.Reference.TheVariants.{Component, Local, Global}
use Rattle.zf_term.specs.ResolvedTrees.{ResolvedTrees}
use Rattle.zf_reference.specs.{renumbered}

same_extent : (g : List Defined) (f : ℕ → ℕ) (r : Reference) → extent_named g (renumbered f r) ≡ extent_named g r
same_extent g f (Component i) = refl
same_extent g f (Local i) = refl
same_extent g f (Global i) = refl

same_name : (g : List Defined) (f : ℕ → ℕ) (l : Span) (r : Reference) → name_offenders l (renumbered f r) (extent_named g (renumbered f r)) ≡ name_offenders l r (extent_named g r)
same_name g f l (Component i) = refl
same_name g f l (Local i) = refl
same_name g f l (Global i) = refl

same_set : (g : List Defined) (f : ℕ → ℕ) (t : ResolvedTree) → direct g (moved f t) ≡ direct g t
same_set g f (reference l r) = ap extent_set (same_extent g f r)
same_set g f (number l v) = refl
same_set g f (constant l c) = refl
same_set g f (empty_set l t) = refl
same_set g f (bracket l t) = same_set g f t
same_set g f (listed l form ts) = refl
same_set g f (comprehension l rs p t) = refl
same_set g f (unary l op t) = refl
same_set g f (binary l op a b) = refl
same_set g f (chain l t ks) = refl
same_set g f (quantified l q rs p t) = refl

same_end : (f : ℕ → ℕ) (ks : ResolvedLinks) → is_last (links_moved f ks) ≡ is_last ks
same_end f no_links = refl
same_end f (link r t ks) = refl

same_test : (g : List Defined) (f : ℕ → ℕ) (r : Relation) (t : ResolvedTree) (ks : ResolvedLinks) → tested g r (is_last (links_moved f ks)) (moved f t) ≡ tested g r (is_last ks) t
same_test g f r t ks = ap (λ b. tested g r b (moved f t)) (same_end f ks) ∙ ap (λ s. if is_membership r && is_last ks then s else None) (same_set g f t)

mutual
  pub same_offences : (g : List Defined) (f : ℕ → ℕ) (t : ResolvedTree) → offending g (moved f t) ≡ offending g t
  same_offences g f (reference l r) = same_name g f l r
  same_offences g f (number l v) = refl
  same_offences g f (constant l c) = refl
  same_offences g f (empty_set l t) = refl
  same_offences g f (bracket l t) = same_offences g f t
  same_offences g f (listed l form ts) = all_same_offences g f ts
  same_offences g f (comprehension l rs p t) = let a = ranges_same_offences g f rs in let b = part_same_offences g f p in let c = part_same_offences g f t in (cc)
  same_offences g f (unary l op t) = same_offences g f t
  same_offences g f (binary l op a b) = let left = same_offences g f a in let right = same_offences g f b in (cc)
  same_offences g f (chain l t ks) = let a = same_offences g f t in let b = links_same_offences g f ks in (cc)
  same_offences g f (quantified l q rs p t) = let a = ranges_same_offences g f rs in let b = part_same_offences g f p in let c = same_offences g f t in (cc)

  all_same_offences : (g : List Defined) (f : ℕ → ℕ) (ts : ResolvedTrees) → all_offending g (all_moved f ts) ≡ all_offending g ts
  all_same_offences g f no_terms = refl
  all_same_offences g f (term t ts) = let a = same_offences g f t in let b = all_same_offences g f ts in (cc)

  links_same_offences : (g : List Defined) (f : ℕ → ℕ) (ks : ResolvedLinks) → links_offending g (links_moved f ks) ≡ links_offending g ks
  links_same_offences g f no_links = refl
  links_same_offences g f (link r t ks) = let a = same_test g f r t ks in let b = same_offences g f t in let c = links_same_offences g f ks in (cc)

  ranges_same_offences : (g : List Defined) (f : ℕ → ℕ) (rs : Ranges) → ranges_offending g (ranges_moved f rs) ≡ ranges_offending g rs
  ranges_same_offences g f no_ranges = refl
  ranges_same_offences g f (range n t rs) = let a = same_offences g f t in let b = ranges_same_offences g f rs in (cc)

  part_same_offences : (g : List Defined) (f : ℕ → ℕ) (p : ResolvedPart) → part_offending g (part_moved f p) ≡ part_offending g p
  part_same_offences g f absent = refl
  part_same_offences g f (present t) = same_offences g f t
