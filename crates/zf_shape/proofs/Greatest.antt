-- The greatest number of the names of a term: what it is at most, that of the names one after another, and that of the further items of a list.
use Rattle.zf_shape.proofs.Prelude.{◌++◌, ◌+◌, ◌<◌, ◌∙◌, ◌∷◌, ◌≡◌, ◌≤◌, [], add-one, ap, arith, drop, get_or, length, List, map, max, suc, sym, zero, ℕ, link-seen, range-seen, absent, binary, bracket, comprehension, chain, constant, empty_set, link, links, listed, no_links, no_ranges, no_terms, number, present, quantified, range, range_of, Ranges, ranges, reference, resolved_link_of, resolved_of, ResolvedLinks, ResolvedPart, ResolvedTree, ResolvedTrees, term, terms, unary, Range, Resolved, ResolvedLink, all_greatest, greatest, links_greatest, part_greatest, ranges_greatest}
use Rattle.zf_reference.specs.declared.reference.Reference.{Reference}
use Rattle.zf_term.specs.{all_onto, links_onto, onto, part_onto, ranges_onto, references}

mutual
  pub greatest-most : (f : Reference → ℕ) (m : ℕ) (h : (r : Reference) → f r ≤ m) (t : ResolvedTree) → greatest f t ≤ m
  greatest-most f m h (reference l r) = h r
  greatest-most f m h (number l n) = omega arith
  greatest-most f m h (constant l k) = omega arith
  greatest-most f m h (empty_set l t) = greatest-most f m h t
  greatest-most f m h (bracket l t) = greatest-most f m h t
  greatest-most f m h (listed l form ts) = all-most f m h ts
  greatest-most f m h (comprehension l rs p t) = let a = ranges-most f m h rs in let b = part-most f m h p in let c = part-most f m h t in omega (arith, a, b, c)
  greatest-most f m h (unary l op t) = greatest-most f m h t
  greatest-most f m h (binary l op a b) = let x = greatest-most f m h a in let y = greatest-most f m h b in omega (arith, x, y)
  greatest-most f m h (chain l t ks) = let x = greatest-most f m h t in let y = links-most f m h ks in omega (arith, x, y)
  greatest-most f m h (quantified l q rs p t) = let a = ranges-most f m h rs in let b = part-most f m h p in let c = greatest-most f m h t in omega (arith, a, b, c)

  all-most : (f : Reference → ℕ) (m : ℕ) (h : (r : Reference) → f r ≤ m) (ts : ResolvedTrees) → all_greatest f ts ≤ m
  all-most f m h no_terms = omega arith
  all-most f m h (term t ts) = let x = greatest-most f m h t in let y = all-most f m h ts in omega (arith, x, y)

  links-most : (f : Reference → ℕ) (m : ℕ) (h : (r : Reference) → f r ≤ m) (ks : ResolvedLinks) → links_greatest f ks ≤ m
  links-most f m h no_links = omega arith
  links-most f m h (link r t ks) = let x = greatest-most f m h t in let y = links-most f m h ks in omega (arith, x, y)

  ranges-most : (f : Reference → ℕ) (m : ℕ) (h : (r : Reference) → f r ≤ m) (rs : Ranges) → ranges_greatest f rs ≤ m
  ranges-most f m h no_ranges = omega arith
  ranges-most f m h (range n t rs) = let x = greatest-most f m h t in let y = ranges-most f m h rs in omega (arith, x, y)

  pub part-most : (f : Reference → ℕ) (m : ℕ) (h : (r : Reference) → f r ≤ m) (p : ResolvedPart) → part_greatest f p ≤ m
  part-most f m h absent = omega arith
  part-most f m h (present t) = greatest-most f m h t

-- ---- of the names, one after another

-- the greatest number among names
abbrev pub greatest_among : (Reference → ℕ) → List Reference → ℕ
greatest_among f [] = 0
greatest_among f (r ∷ rs) = max (f r) (greatest_among f rs)

module _ (f : Reference → ℕ) where
  behind : (rs : List Reference) (r : Reference) → greatest_among f (rs ++ r ∷ []) ≡ max (greatest_among f rs) (f r)
  behind [] r = omega arith
  behind (s ∷ rs) r = omega (arith, behind rs r)

  mutual
    pub of_term : (rs : List Reference) (t : ResolvedTree) → greatest_among f (onto rs t) ≡ max (greatest_among f rs) (greatest f t)
    of_term rs (reference l r) = behind rs r
    of_term rs (number l n) = omega arith
    of_term rs (constant l k) = omega arith
    of_term rs (empty_set l t) = of_term rs t
    of_term rs (bracket l t) = of_term rs t
    of_term rs (listed l form ts) = of_terms rs ts
    of_term rs (comprehension l ds p t) = omega (arith, of_part (part_onto (ranges_onto rs ds) p) t, of_part (ranges_onto rs ds) p, of_ranges rs ds)
    of_term rs (unary l op t) = of_term rs t
    of_term rs (binary l op a b) = omega (arith, of_term (onto rs a) b, of_term rs a)
    of_term rs (chain l t ks) = omega (arith, of_links (onto rs t) ks, of_term rs t)
    of_term rs (quantified l q ds p t) = omega (arith, of_term (part_onto (ranges_onto rs ds) p) t, of_part (ranges_onto rs ds) p, of_ranges rs ds)

    of_terms : (rs : List Reference) (ts : ResolvedTrees) → greatest_among f (all_onto rs ts) ≡ max (greatest_among f rs) (all_greatest f ts)
    of_terms rs no_terms = omega arith
    of_terms rs (term t ts) = omega (arith, of_terms (onto rs t) ts, of_term rs t)

    of_links : (rs : List Reference) (ks : ResolvedLinks) → greatest_among f (links_onto rs ks) ≡ max (greatest_among f rs) (links_greatest f ks)
    of_links rs no_links = omega arith
    of_links rs (link r t ks) = omega (arith, of_links (onto rs t) ks, of_term rs t)

    of_ranges : (rs : List Reference) (ds : Ranges) → greatest_among f (ranges_onto rs ds) ≡ max (greatest_among f rs) (ranges_greatest f ds)
    of_ranges rs no_ranges = omega arith
    of_ranges rs (range n t ds) = omega (arith, of_ranges (onto rs t) ds, of_term rs t)

    of_part : (rs : List Reference) (p : ResolvedPart) → greatest_among f (part_onto rs p) ≡ max (greatest_among f rs) (part_greatest f p)
    of_part rs absent = omega arith
    of_part rs (present t) = of_term rs t

  pub among_names : (t : ResolvedTree) → greatest f t ≡ greatest_among f (references t)
  among_names t = omega (arith, of_term [] t)

-- ---- the items from one on

terms_next : (f : Reference → ℕ) (xs : List Resolved) (i : ℕ) (x : Resolved) → x ≡ get_or xs i x → i < length xs
    → all_greatest f (terms (map resolved_of (drop i xs))) ≡ max (greatest f (resolved_of x)) (all_greatest f (terms (map resolved_of (drop (suc i) xs))))
terms_next f [] i x at l = absurd (omega arith)
terms_next f (y ∷ xs) zero x at l = ap (λ z. max (greatest f (resolved_of z)) (all_greatest f (terms (map resolved_of xs)))) (sym at)
terms_next f (y ∷ xs) (suc i) x at l = terms_next f xs i x at (omega arith)

pub terms_step : (f : Reference → ℕ) (xs : List Resolved) (i : ℕ) (x : Resolved) → x ≡ get_or xs i x → i < length xs
    → all_greatest f (terms (map resolved_of (drop i xs))) ≡ max (greatest f (resolved_of x)) (all_greatest f (terms (map resolved_of (drop (i + 1) xs))))
terms_step f xs i x at l = rw add-one (terms_next f xs i x at l)

of_link : (f : Reference → ℕ) (k : ResolvedLink) (rest : ResolvedLinks) → links_greatest f (link (resolved_link_of k).0 (resolved_link_of k).1 rest) ≡ max (greatest f (resolved_of k.right)) (links_greatest f rest)
of_link f k rest = ap (λ p. max (greatest f p.1) (links_greatest f rest)) (link-seen k)

links_next : (f : Reference → ℕ) (xs : List ResolvedLink) (i : ℕ) (x : ResolvedLink) → x ≡ get_or xs i x → i < length xs
    → links_greatest f (links (map resolved_link_of (drop i xs))) ≡ max (greatest f (resolved_of x.right))
    (links_greatest f (links (map resolved_link_of (drop (suc i) xs))))
links_next f [] i x at l = absurd (omega arith)
links_next f (y ∷ xs) zero x at l = of_link f y (links (map resolved_link_of xs)) ∙ ap (λ z. max (greatest f (resolved_of z.right)) (links_greatest f (links (map resolved_link_of xs)))) (sym at)
links_next f (y ∷ xs) (suc i) x at l = links_next f xs i x at (omega arith)

pub links_step : (f : Reference → ℕ) (xs : List ResolvedLink) (i : ℕ) (x : ResolvedLink) → x ≡ get_or xs i x → i < length xs
    → links_greatest f (links (map resolved_link_of (drop i xs))) ≡ max (greatest f (resolved_of x.right))
    (links_greatest f (links (map resolved_link_of (drop (i + 1) xs))))
links_step f xs i x at l = rw add-one (links_next f xs i x at l)

of_range : (f : Reference → ℕ) (r : Range) (rest : Ranges) → ranges_greatest f (range (range_of r).0 (range_of r).1 rest) ≡ max (greatest f (resolved_of r.set)) (ranges_greatest f rest)
of_range f r rest = ap (λ p. max (greatest f p.1) (ranges_greatest f rest)) (range-seen r)

ranges_next : (f : Reference → ℕ) (xs : List Range) (i : ℕ) (x : Range) → x ≡ get_or xs i x → i < length xs
    → ranges_greatest f (ranges (map range_of (drop i xs))) ≡ max (greatest f (resolved_of x.set)) (ranges_greatest f (ranges (map range_of (drop (suc i) xs))))
ranges_next f [] i x at l = absurd (omega arith)
ranges_next f (y ∷ xs) zero x at l = of_range f y (ranges (map range_of xs)) ∙ ap (λ z. max (greatest f (resolved_of z.set)) (ranges_greatest f (ranges (map range_of xs)))) (sym at)
ranges_next f (y ∷ xs) (suc i) x at l = ranges_next f xs i x at (omega arith)

pub ranges_step : (f : Reference → ℕ) (xs : List Range) (i : ℕ) (x : Range) → x ≡ get_or xs i x → i < length xs
    → ranges_greatest f (ranges (map range_of (drop i xs))) ≡ max (greatest f (resolved_of x.set)) (ranges_greatest f (ranges (map range_of (drop (i + 1) xs))))
ranges_step f xs i x at l = rw add-one (ranges_next f xs i x at l)
