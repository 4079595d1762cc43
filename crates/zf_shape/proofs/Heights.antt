-- The height of terms, and of each of several.
use Rattle.zf_shape.proofs.Prelude.{◌+◌, ◌-◌, ◌∙◌, ◌≡◌, ◌≤◌, ap, arith, Bool, false, IsTrue, List, map, max, Option, sym, true, true≢false, ℕ, Quantifier, link-seen, of-Comprehension, of-Quantified, range-seen, absent, binary, bracket, comprehension, chain, constant, empty_set, link, links, listed, no_links, no_ranges, no_terms, number, part_of, present, quantified, range, range_of, Ranges, ranges, reference, resolved_link_of, resolved_of, ResolvedLinks, ResolvedPart, ResolvedTree, ResolvedTrees, term, terms, unary, all_nodes, height, link_nodes, nodes, part_height, part_nodes, range_nodes, tallest, tallest_link, tallest_range, Range, Resolved, ResolvedLink, Span}
use Rattle.zf_term.specs.declared.resolved.Resolved.TheVariants as v
use Rattle.zf_shape.proofs.FirstOf.{IsHighest, IsWithin, stay, StayWithin, within}

-- none is without height
pub some_height : (t : ResolvedTree) → 1 ≤ height t
some_height (reference l r) = omega arith
some_height (number l v) = omega arith
some_height (constant l c) = omega arith
some_height (empty_set l t) = omega arith
some_height (bracket l t) = some_height t
some_height (listed l form ts) = omega arith
some_height (comprehension l rs p t) = omega arith
some_height (unary l op t) = omega arith
some_height (binary l op a b) = omega arith
some_height (chain l t ks) = omega arith
some_height (quantified l q rs p t) = omega arith

-- none is higher than it has nodes
mutual
  pub below_nodes : (t : ResolvedTree) → height t ≤ nodes t
  below_nodes (reference l r) = omega arith
  below_nodes (number l v) = omega arith
  below_nodes (constant l c) = omega arith
  below_nodes (empty_set l t) = omega (arith, below_nodes t)
  below_nodes (bracket l t) = below_nodes t
  below_nodes (listed l form ts) = omega (arith, below_all_nodes ts)
  below_nodes (comprehension l rs p t) = omega (arith, below_range_nodes rs, below_part_nodes p, below_part_nodes t)
  below_nodes (unary l op t) = omega (arith, below_nodes t)
  below_nodes (binary l op a b) = omega (arith, below_nodes a, below_nodes b)
  below_nodes (chain l t ks) = omega (arith, below_nodes t, below_link_nodes ks)
  below_nodes (quantified l q rs p t) = omega (arith, below_range_nodes rs, below_part_nodes p, below_nodes t)

  below_all_nodes : (ts : ResolvedTrees) → tallest ts ≤ all_nodes ts
  below_all_nodes no_terms = omega arith
  below_all_nodes (term t ts) = omega (arith, below_nodes t, below_all_nodes ts)

  below_link_nodes : (ks : ResolvedLinks) → tallest_link ks ≤ link_nodes ks
  below_link_nodes no_links = omega arith
  below_link_nodes (link r t ks) = omega (arith, below_nodes t, below_link_nodes ks)

  below_range_nodes : (rs : Ranges) → tallest_range rs ≤ range_nodes rs
  below_range_nodes no_ranges = omega arith
  below_range_nodes (range n t rs) = omega (arith, below_nodes t, below_range_nodes rs)

  below_part_nodes : (p : ResolvedPart) → part_height p ≤ part_nodes p
  below_part_nodes absent = omega arith
  below_part_nodes (present t) = below_nodes t

pub of_comprehension : (l : Span) (rs : List Range) (p t : Option Resolved) → height (resolved_of (v.Comprehension l rs p t))
    ≡ max (max (tallest_range (ranges (map range_of rs))) (part_height (part_of p))) (part_height (part_of t)) + 1
of_comprehension l rs p t = ap height (of-Comprehension l rs p t)

pub of_quantified : (l : Span) (q : Quantifier) (rs : List Range) (p : Option Resolved) (t : Resolved)
    → height (resolved_of (v.Quantified q l rs p t)) ≡ max (max (tallest_range (ranges (map range_of rs))) (part_height (part_of p)))
    (height (resolved_of t)) + 1
of_quantified l q rs p t = ap height (of-Quantified l q rs p t)

pub ruleset heights = (some_height, of_comprehension, of_quantified)

terms_highest : IsHighest (λ (x : Resolved). height (resolved_of x)) (λ xs. tallest (terms (map resolved_of xs)))
terms_highest = (omega arith, λ x xs. omega arith)

pub term_within : IsWithin (λ (x : Resolved). height (resolved_of x)) (λ xs. tallest (terms (map resolved_of xs)))
term_within = within _ _ terms_highest

pub terms_more : StayWithin (λ (x : Resolved). height (resolved_of x)) (λ xs. tallest (terms (map resolved_of xs)))
terms_more = stay _ _ terms_highest

links_highest : IsHighest (λ (x : ResolvedLink). height (resolved_of x.right)) (λ xs. tallest_link (links (map resolved_link_of xs)))
links_highest = (omega arith, λ x xs. omega (arith, ap (λ z. height z.1) (link-seen x)))

pub link_within : IsWithin (λ (x : ResolvedLink). height (resolved_of x.right)) (λ xs. tallest_link (links (map resolved_link_of xs)))
link_within = within _ _ links_highest

pub links_more : StayWithin (λ (x : ResolvedLink). height (resolved_of x.right)) (λ xs. tallest_link (links (map resolved_link_of xs)))
links_more = stay _ _ links_highest

ranges_highest : IsHighest (λ (x : Range). height (resolved_of x.set)) (λ xs. tallest_range (ranges (map range_of xs)))
ranges_highest = (omega arith, λ x xs. omega (arith, ap (λ z. height z.1) (range-seen x)))

pub range_within : IsWithin (λ (x : Range). height (resolved_of x.set)) (λ xs. tallest_range (ranges (map range_of xs)))
range_within = within _ _ ranges_highest

pub ranges_more : StayWithin (λ (x : Range). height (resolved_of x.set)) (λ xs. tallest_range (ranges (map range_of xs)))
ranges_more = stay _ _ ranges_highest

-- the first of three parts is too high
pub first_too_high : (x y z whole lower highest : ℕ) (r : Bool) → whole ≡ max (max x y) z + 1 → (1 ≤ highest) × (lower ≡ highest - 1) → (IsTrue r → x ≤ lower)
    × (x ≤ lower → IsTrue r) → r ≡ false → (IsTrue false → whole ≤ highest) × (whole ≤ highest → IsTrue false)
first_too_high x y z whole lower highest r is step first no_first = (λ b. absurd (true≢false (sym b)), λ h. sym no_first ∙ first.1 (omega (arith, is, step.0, step.1, h)))

-- the last of three parts decides
pub last_decides : (x y z whole lower highest : ℕ) (r s b : Bool) → whole ≡ max (max x y) z + 1 → (1 ≤ highest) × (lower ≡ highest - 1)
    → (IsTrue r → x ≤ lower) × (x ≤ lower → IsTrue r) → r ≡ true → (IsTrue s → y ≤ lower) × (y ≤ lower → IsTrue s) → s ≡ true → (IsTrue b → z ≤ lower)
    × (z ≤ lower → IsTrue b) → (IsTrue b → whole ≤ highest) × (whole ≤ highest → IsTrue b)
last_decides x y z whole lower highest r s b is step first has_first second has_second third =
    let one = first.0 has_first in
    let two = second.0 has_second in
    (λ t. let three = third.0 t in omega (arith, is, step.0, step.1, one, two, three), λ h. third.1 (omega (arith, is, step.0, step.1, h)))

pub is_comprehension : (l : Span) (rs : List Range) (p t : Option Resolved) (whole : Resolved) → whole ≡ v.Comprehension l rs p t
    → height (resolved_of whole) ≡ max (max (tallest_range (ranges (map range_of rs))) (part_height (part_of p))) (part_height (part_of t)) + 1
is_comprehension l rs p t whole is = ap (λ w. height (resolved_of w)) is ∙ of_comprehension l rs p t

pub is_quantified : (l : Span) (q : Quantifier) (rs : List Range) (p : Option Resolved) (t u whole : Resolved) → whole ≡ v.Quantified q l rs p t → u ≡ t
    → height (resolved_of whole) ≡ max (max (tallest_range (ranges (map range_of rs))) (part_height (part_of p))) (height (resolved_of u)) + 1
is_quantified l q rs p t u whole is get = ap (λ w. height (resolved_of w)) is ∙ of_quantified l q rs p t
    ∙ ap (λ w. max (max (tallest_range (ranges (map range_of rs))) (part_height (part_of p))) (height (resolved_of w)) + 1) (sym get)
