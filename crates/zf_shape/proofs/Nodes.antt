-- The nodes of terms, and of the first of several.
use Rattle.zf_shape.proofs.Prelude.{◌+◌, ◌<◌, ◌∙◌, ◌≡◌, ◌≤◌, ap, arith, get_or, length, List, map, None, Option, Some, sym, take, ℕ, Quantifier, link-seen, of-Comprehension, of-Quantified, range-seen, links, part_of, range_of, ranges, resolved_link_of, resolved_of, ResolvedTree, terms, all_nodes, link_nodes, nodes, part_nodes, range_nodes, Range, Resolved, ResolvedLink, MatchOption, Span}
use Rattle.zf_shape.proofs.FirstOf.{before, IsCounted, IsMore, more}
use Rattle.zf_shape.proofs.Heights.{below_nodes, some_height}
use Rattle.zf_term.specs.declared.resolved.Resolved.TheVariants as v

pub some_node : (t : ResolvedTree) → 1 ≤ nodes t
some_node t = omega (arith, some_height t, below_nodes t)

terms_counted : IsCounted (λ (x : Resolved). nodes (resolved_of x)) (λ xs. all_nodes (terms (map resolved_of xs)))
terms_counted = (omega arith, λ x xs. omega arith)

links_counted : IsCounted (λ (x : ResolvedLink). nodes (resolved_of x.right)) (λ xs. link_nodes (links (map resolved_link_of xs)))
links_counted = (omega arith, λ x xs. omega (arith, ap (λ z. nodes z.1) (link-seen x)))

ranges_counted : IsCounted (λ (x : Range). nodes (resolved_of x.set)) (λ xs. range_nodes (ranges (map range_of xs)))
ranges_counted = (omega arith, λ x xs. omega (arith, ap (λ z. nodes z.1) (range-seen x)))

pub terms_before : (xs : List Resolved) (i : ℕ) (x : Resolved) → x ≡ get_or xs i x → i < length xs
    → all_nodes (terms (map resolved_of (take i xs))) + nodes (resolved_of x) ≤ all_nodes (terms (map resolved_of xs))
terms_before = before _ _ terms_counted

pub links_before : (xs : List ResolvedLink) (i : ℕ) (x : ResolvedLink) → x ≡ get_or xs i x → i < length xs
    → link_nodes (links (map resolved_link_of (take i xs))) + nodes (resolved_of x.right) ≤ link_nodes (links (map resolved_link_of xs))
links_before = before _ _ links_counted

pub ranges_before : (xs : List Range) (i : ℕ) (x : Range) → x ≡ get_or xs i x → i < length xs
    → range_nodes (ranges (map range_of (take i xs))) + nodes (resolved_of x.set) ≤ range_nodes (ranges (map range_of xs))
ranges_before = before _ _ ranges_counted

pub terms_more : IsMore (λ (x : Resolved). nodes (resolved_of x)) (λ xs. all_nodes (terms (map resolved_of xs)))
terms_more = more _ _ terms_counted

pub links_more : IsMore (λ (x : ResolvedLink). nodes (resolved_of x.right)) (λ xs. link_nodes (links (map resolved_link_of xs)))
links_more = more _ _ links_counted

pub ranges_more : IsMore (λ (x : Range). nodes (resolved_of x.set)) (λ xs. range_nodes (ranges (map range_of xs)))
ranges_more = more _ _ ranges_counted

pub of_comprehension : (l : Span) (rs : List Range) (p t : Option Resolved) (whole : Resolved) → whole ≡ v.Comprehension l rs p t
    → nodes (resolved_of whole) ≡ range_nodes (ranges (map range_of rs)) + part_nodes (part_of p) + part_nodes (part_of t) + 1
of_comprehension l rs p t whole is = ap (λ w. nodes (resolved_of w)) is ∙ ap nodes (of-Comprehension l rs p t)

pub of_quantified : (l : Span) (q : Quantifier) (rs : List Range) (p : Option Resolved) (t u whole : Resolved) → whole ≡ v.Quantified q l rs p t → u ≡ t
    → nodes (resolved_of whole) ≡ range_nodes (ranges (map range_of rs)) + part_nodes (part_of p) + nodes (resolved_of u) + 1
of_quantified l q rs p t u whole is get = ap (λ w. nodes (resolved_of w)) is ∙ ap nodes (of-Quantified l q rs p t)
    ∙ ap (λ w. range_nodes (ranges (map range_of rs)) + part_nodes (part_of p) + nodes (resolved_of w) + 1) (sym get)

-- what is left by the last of three parts
pub last_of_three : (o : Option ℕ) (a b n whole room rest left last : ℕ) → whole ≡ a + b + n + 1 → rest + 1 ≡ room → left + a ≡ rest → last + b ≡ left
    → MatchOption o (last < n) (λ r. r + n ≡ last) → MatchOption o (room < whole) (λ r. r + whole ≡ room)
last_of_three None a b n whole room rest left last is step first second third = omega (arith, is, step, first, second, third)
last_of_three (Some r) a b n whole room rest left last is step first second third = omega (arith, is, step, first, second, third)

-- nothing is left by the first or the second
pub none_left : (o : Option ℕ) (whole room : ℕ) → o ≡ None → room < whole → MatchOption o (room < whole) (λ r. r + whole ≡ room)
none_left None whole room none less = less
none_left (Some r) whole room none less = (cc)
