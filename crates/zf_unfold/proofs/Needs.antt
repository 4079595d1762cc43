-- A term with other names needs no more components, nor does what a quantifier says of its members.
use Rattle.zf_unfold.proofs.Prelude.{◌≤◌, arith, max, None, Option, Some, suc, zero, ℕ, Reference, Component, Global, Local, absent, binary, bracket, comprehension, chain, constant, empty_set, link, listed, no_links, no_ranges, no_terms, number, present, quantified, range, Ranges, reference, ResolvedLinks, ResolvedPart, ResolvedTree, ResolvedTrees, term, unary, all_need, links_need, need, part_need, place, ranges_need, named, renamed, all_renamed, links_renamed, ranges_renamed, part_renamed, ForAll, implied, inside, instance, instances, others, over, Span}

module _ (f : Reference → Reference) (h : (r : Reference) → place (f r) ≤ place r) where
  mutual
    pub need_renamed : (t : ResolvedTree) → need (renamed f t) ≤ need t
    need_renamed (reference l r) = h r
    need_renamed (number l n) = omega arith
    need_renamed (constant l k) = omega arith
    need_renamed (empty_set l t) = need_renamed t
    need_renamed (bracket l t) = need_renamed t
    need_renamed (listed l form ts) = all_needed ts
    need_renamed (comprehension l rs p t) = omega (arith, ranges_needed rs, part_needed p, part_needed t)
    need_renamed (unary l op t) = need_renamed t
    need_renamed (binary l op a b) = omega (arith, need_renamed a, need_renamed b)
    need_renamed (chain l t ks) = omega (arith, need_renamed t, links_needed ks)
    need_renamed (quantified l q rs p t) = omega (arith, ranges_needed rs, part_needed p, need_renamed t)

    all_needed : (ts : ResolvedTrees) → all_need (all_renamed f ts) ≤ all_need ts
    all_needed no_terms = omega arith
    all_needed (term t ts) = omega (arith, need_renamed t, all_needed ts)

    links_needed : (ks : ResolvedLinks) → links_need (links_renamed f ks) ≤ links_need ks
    links_needed no_links = omega arith
    links_needed (link r t ks) = omega (arith, need_renamed t, links_needed ks)

    pub ranges_needed : (rs : Ranges) → ranges_need (ranges_renamed f rs) ≤ ranges_need rs
    ranges_needed no_ranges = omega arith
    ranges_needed (range n t rs) = omega (arith, need_renamed t, ranges_needed rs)

    pub part_needed : (p : ResolvedPart) → part_need (part_renamed f p) ≤ part_need p
    part_needed absent = omega arith
    part_needed (present t) = need_renamed t

inside_no_place : (m i : ℕ) → place (inside m i) ≤ 0
inside_no_place m zero = omega arith
inside_no_place m (suc i) = omega arith

pub no_further : (n : ℕ) (m : Option ℕ) (r : Reference) → place (named n m r) ≤ place r
unfolding named
no_further n m (Component i) = omega arith
no_further n None (Local i) = omega arith
no_further n (Some m) (Local i) = inside_no_place m i
no_further n m (Global i) = omega arith

fewer_ranges : (rs : Ranges) → ranges_need (others rs) ≤ ranges_need rs
fewer_ranges no_ranges = omega arith
fewer_ranges (range zero t rs) = omega arith
fewer_ranges (range (suc zero) t rs) = omega arith
fewer_ranges (range (suc (suc n)) t rs) = omega arith

need_implied : (l : Span) (p : ResolvedPart) (t : ResolvedTree) → need (implied l p t) ≤ max (part_need p) (need t)
need_implied l absent t = omega arith
need_implied l (present p) t = omega arith

need_over : (l : Span) (rs : Ranges) (p : ResolvedPart) (t : ResolvedTree) → need (over l rs p t) ≤ need (quantified l ForAll rs p t)
need_over l no_ranges p t = omega (arith, need_implied l p t)
need_over l (range n s rs) p t = omega arith

need_instance : (n m : ℕ) (l : Span) (rs : Ranges) (p : ResolvedPart) (t : ResolvedTree) → need (instance n m l rs p t) ≤ need (quantified l ForAll rs p t)
need_instance n m l rs p t =
    let f = named n (Some m) in
    let outer = ranges_renamed (named n None) rs in
    omega (
      arith,
      need_over l (others outer) (part_renamed f p) (renamed f t),
      fewer_ranges outer,
      ranges_needed (named n None) (no_further n None) rs,
      part_needed f (no_further n (Some m)) p,
      need_renamed f (no_further n (Some m)) t,
    )

pub need_instances : (n m more : ℕ) (l : Span) (rs : Ranges) (p : ResolvedPart) (t : ResolvedTree) → need (instances n m more l rs p t) ≤ need (quantified l ForAll rs p t)
need_instances n m zero l rs p t = need_instance n m l rs p t
need_instances n m (suc more) l rs p t = omega (arith, need_instance n m l rs p t, need_instances n (suc m) more l rs p t)
