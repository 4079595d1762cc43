-- What the references of a term are when its components are numbered anew.
use Rattle.zf_term.proofs.Prelude.{◌∙◌, ◌∷◌, ◌≡◌, [], ap, List, map, refl, sym, ℕ, map-append, renumbered, Reference, all_onto, links_onto, onto, part_onto, ranges_onto, absent, binary, bracket, comprehension, chain, constant, empty_set, link, listed, no_links, no_ranges, no_terms, number, present, quantified, range, Ranges, reference, ResolvedLinks, ResolvedPart, ResolvedTree, ResolvedTrees, term, unary, all_moved, links_moved, moved, part_moved, ranges_moved}
use Rattle.zf_term.specs.{ComponentsAloneNumbered, MovedKeepsVariables}

-- after others, numbered anew with them
mutual
  pub moved_onto : (f : ℕ → ℕ) (rs : List Reference) (t : ResolvedTree) → onto (map (renumbered f) rs) (moved f t) ≡ map (renumbered f) (onto rs t)
  moved_onto f rs (reference l r) = sym (map-append (renumbered f) rs (r ∷ []))
  moved_onto f rs (number l v) = refl
  moved_onto f rs (constant l c) = refl
  moved_onto f rs (empty_set l t) = moved_onto f rs t
  moved_onto f rs (bracket l t) = moved_onto f rs t
  moved_onto f rs (listed l form ts) = all_moved_onto f rs ts
  moved_onto f rs (comprehension l ds p t) =
      ap (λ xs. part_onto (part_onto xs (part_moved f p)) (part_moved f t)) (ranges_moved_onto f rs ds)
      ∙ ap (λ xs. part_onto xs (part_moved f t)) (part_moved_onto f (ranges_onto rs ds) p)
      ∙ part_moved_onto f (part_onto (ranges_onto rs ds) p) t
  moved_onto f rs (unary l op t) = moved_onto f rs t
  moved_onto f rs (binary l op a b) = ap (λ xs. onto xs (moved f b)) (moved_onto f rs a) ∙ moved_onto f (onto rs a) b
  moved_onto f rs (chain l t ks) = ap (λ xs. links_onto xs (links_moved f ks)) (moved_onto f rs t) ∙ links_moved_onto f (onto rs t) ks
  moved_onto f rs (quantified l q ds p t) =
      ap (λ xs. onto (part_onto xs (part_moved f p)) (moved f t)) (ranges_moved_onto f rs ds)
      ∙ ap (λ xs. onto xs (moved f t)) (part_moved_onto f (ranges_onto rs ds) p)
      ∙ moved_onto f (part_onto (ranges_onto rs ds) p) t

  pub all_moved_onto : (f : ℕ → ℕ) (rs : List Reference) (ts : ResolvedTrees) → all_onto (map (renumbered f) rs) (all_moved f ts) ≡ map (renumbered f) (all_onto rs ts)
  all_moved_onto f rs no_terms = refl
  all_moved_onto f rs (term t ts) = ap (λ xs. all_onto xs (all_moved f ts)) (moved_onto f rs t) ∙ all_moved_onto f (onto rs t) ts

  pub links_moved_onto : (f : ℕ → ℕ) (rs : List Reference) (ks : ResolvedLinks) → links_onto (map (renumbered f) rs) (links_moved f ks) ≡ map (renumbered f) (links_onto rs ks)
  links_moved_onto f rs no_links = refl
  links_moved_onto f rs (link r t ks) = ap (λ xs. links_onto xs (links_moved f ks)) (moved_onto f rs t) ∙ links_moved_onto f (onto rs t) ks

  pub ranges_moved_onto : (f : ℕ → ℕ) (rs : List Reference) (ds : Ranges) → ranges_onto (map (renumbered f) rs) (ranges_moved f ds) ≡ map (renumbered f) (ranges_onto rs ds)
  ranges_moved_onto f rs no_ranges = refl
  ranges_moved_onto f rs (range n t ds) = ap (λ xs. ranges_onto xs (ranges_moved f ds)) (moved_onto f rs t) ∙ ranges_moved_onto f (onto rs t) ds

  pub part_moved_onto : (f : ℕ → ℕ) (rs : List Reference) (p : ResolvedPart) → part_onto (map (renumbered f) rs) (part_moved f p) ≡ map (renumbered f) (part_onto rs p)
  part_moved_onto f rs absent = refl
  part_moved_onto f rs (present t) = moved_onto f rs t

pub moved_keeps_variables : MovedKeepsVariables
moved_keeps_variables f t = moved_onto f [] t

pub components_alone_numbered : ComponentsAloneNumbered
components_alone_numbered f i = (refl, refl, refl)
