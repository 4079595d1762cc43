-- What a term keeps when its components are numbered anew, and that it can be done at once.
use Rattle.zf_term.proofs.Prelude.{◌+◌, ◌≡◌, ap, refl, ℕ, Component, Global, Local, absent, binary, bracket, comprehension, chain, constant, empty_set, link, listed, no_links, no_ranges, no_terms, number, present, quantified, range, Ranges, reference, ResolvedLinks, ResolvedPart, ResolvedTree, ResolvedTrees, term, unary}
use Rattle.zf_term.specs.{all_moved, all_nodes, height, link_nodes, links_moved, moved, nodes, part_height, part_moved, part_nodes, range_nodes, ranges_moved, tallest, tallest_link, tallest_range, term_span}

-- ---- one after the other

mutual
  pub at_once : (f g : ℕ → ℕ) (t : ResolvedTree) → moved f (moved g t) ≡ moved (λ i. f (g i)) t
  at_once f g (reference l (Component i)) = refl
  at_once f g (reference l (Local i)) = refl
  at_once f g (reference l (Global i)) = refl
  at_once f g (number l v) = refl
  at_once f g (constant l c) = refl
  at_once f g (empty_set l t) = ap (empty_set l) (at_once f g t)
  at_once f g (bracket l t) = ap (bracket l) (at_once f g t)
  at_once f g (listed l form ts) = ap (listed l form) (all_at_once f g ts)
  at_once f g (comprehension l rs p t) = let a = ranges_at_once f g rs in let b = part_at_once f g p in let c = part_at_once f g t in (cc)
  at_once f g (unary l op t) = ap (unary l op) (at_once f g t)
  at_once f g (binary l op a b) = let left = at_once f g a in let right = at_once f g b in (cc)
  at_once f g (chain l t ks) = let a = at_once f g t in let b = links_at_once f g ks in (cc)
  at_once f g (quantified l q rs p t) = let a = ranges_at_once f g rs in let b = part_at_once f g p in let c = at_once f g t in (cc)

  all_at_once : (f g : ℕ → ℕ) (ts : ResolvedTrees) → all_moved f (all_moved g ts) ≡ all_moved (λ i. f (g i)) ts
  all_at_once f g no_terms = refl
  all_at_once f g (term t ts) = let a = at_once f g t in let b = all_at_once f g ts in (cc)

  links_at_once : (f g : ℕ → ℕ) (ks : ResolvedLinks) → links_moved f (links_moved g ks) ≡ links_moved (λ i. f (g i)) ks
  links_at_once f g no_links = refl
  links_at_once f g (link r t ks) = let a = at_once f g t in let b = links_at_once f g ks in (cc)

  ranges_at_once : (f g : ℕ → ℕ) (rs : Ranges) → ranges_moved f (ranges_moved g rs) ≡ ranges_moved (λ i. f (g i)) rs
  ranges_at_once f g no_ranges = refl
  ranges_at_once f g (range n t rs) = let a = at_once f g t in let b = ranges_at_once f g rs in (cc)

  part_at_once : (f g : ℕ → ℕ) (p : ResolvedPart) → part_moved f (part_moved g p) ≡ part_moved (λ i. f (g i)) p
  part_at_once f g absent = refl
  part_at_once f g (present t) = ap present (at_once f g t)

-- ---- span, nodes and height

pub same_span : (f : ℕ → ℕ) (t : ResolvedTree) → term_span (moved f t) ≡ term_span t
same_span f (reference l r) = refl
same_span f (number l v) = refl
same_span f (constant l c) = refl
same_span f (empty_set l t) = refl
same_span f (bracket l t) = refl
same_span f (listed l form ts) = refl
same_span f (comprehension l rs p t) = refl
same_span f (unary l op t) = refl
same_span f (binary l op a b) = refl
same_span f (chain l t ks) = refl
same_span f (quantified l q rs p t) = refl

mutual
  pub same_nodes : (f : ℕ → ℕ) (t : ResolvedTree) → nodes (moved f t) ≡ nodes t
  same_nodes f (reference l r) = refl
  same_nodes f (number l v) = refl
  same_nodes f (constant l c) = refl
  same_nodes f (empty_set l t) = ap (λ n. n + 1) (same_nodes f t)
  same_nodes f (bracket l t) = same_nodes f t
  same_nodes f (listed l form ts) = ap (λ n. n + 1) (all_same_nodes f ts)
  same_nodes f (comprehension l rs p t) = let a = ranges_same_nodes f rs in let b = part_same_nodes f p in let c = part_same_nodes f t in (cc)
  same_nodes f (unary l op t) = ap (λ n. n + 1) (same_nodes f t)
  same_nodes f (binary l op a b) = let left = same_nodes f a in let right = same_nodes f b in (cc)
  same_nodes f (chain l t ks) = let a = same_nodes f t in let b = links_same_nodes f ks in (cc)
  same_nodes f (quantified l q rs p t) = let a = ranges_same_nodes f rs in let b = part_same_nodes f p in let c = same_nodes f t in (cc)

  all_same_nodes : (f : ℕ → ℕ) (ts : ResolvedTrees) → all_nodes (all_moved f ts) ≡ all_nodes ts
  all_same_nodes f no_terms = refl
  all_same_nodes f (term t ts) = let a = same_nodes f t in let b = all_same_nodes f ts in (cc)

  links_same_nodes : (f : ℕ → ℕ) (ks : ResolvedLinks) → link_nodes (links_moved f ks) ≡ link_nodes ks
  links_same_nodes f no_links = refl
  links_same_nodes f (link r t ks) = let a = same_nodes f t in let b = links_same_nodes f ks in (cc)

  ranges_same_nodes : (f : ℕ → ℕ) (rs : Ranges) → range_nodes (ranges_moved f rs) ≡ range_nodes rs
  ranges_same_nodes f no_ranges = refl
  ranges_same_nodes f (range n t rs) = let a = same_nodes f t in let b = ranges_same_nodes f rs in (cc)

  part_same_nodes : (f : ℕ → ℕ) (p : ResolvedPart) → part_nodes (part_moved f p) ≡ part_nodes p
  part_same_nodes f absent = refl
  part_same_nodes f (present t) = same_nodes f t

mutual
  pub same_height : (f : ℕ → ℕ) (t : ResolvedTree) → height (moved f t) ≡ height t
  same_height f (reference l r) = refl
  same_height f (number l v) = refl
  same_height f (constant l c) = refl
  same_height f (empty_set l t) = ap (λ n. n + 1) (same_height f t)
  same_height f (bracket l t) = same_height f t
  same_height f (listed l form ts) = ap (λ n. n + 1) (all_same_height f ts)
  same_height f (comprehension l rs p t) = let a = ranges_same_height f rs in let b = part_same_height f p in let c = part_same_height f t in (cc)
  same_height f (unary l op t) = ap (λ n. n + 1) (same_height f t)
  same_height f (binary l op a b) = let left = same_height f a in let right = same_height f b in (cc)
  same_height f (chain l t ks) = let a = same_height f t in let b = links_same_height f ks in (cc)
  same_height f (quantified l q rs p t) = let a = ranges_same_height f rs in let b = part_same_height f p in let c = same_height f t in (cc)

  all_same_height : (f : ℕ → ℕ) (ts : ResolvedTrees) → tallest (all_moved f ts) ≡ tallest ts
  all_same_height f no_terms = refl
  all_same_height f (term t ts) = let a = same_height f t in let b = all_same_height f ts in (cc)

  links_same_height : (f : ℕ → ℕ) (ks : ResolvedLinks) → tallest_link (links_moved f ks) ≡ tallest_link ks
  links_same_height f no_links = refl
  links_same_height f (link r t ks) = let a = same_height f t in let b = links_same_height f ks in (cc)

  ranges_same_height : (f : ℕ → ℕ) (rs : Ranges) → tallest_range (ranges_moved f rs) ≡ tallest_range rs
  ranges_same_height f no_ranges = refl
  ranges_same_height f (range n t rs) = let a = same_height f t in let b = ranges_same_height f rs in (cc)

  part_same_height : (f : ℕ → ℕ) (p : ResolvedPart) → part_height (part_moved f p) ≡ part_height p
  part_same_height f absent = refl
  part_same_height f (present t) = same_height f t

pub ruleset kept = (same_span, same_nodes, same_height)
