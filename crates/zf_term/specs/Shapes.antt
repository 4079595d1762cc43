-- The shape of resolved terms: their nodes, their height, their conjuncts, and their components numbered anew.
use Rattle.zf_tree.specs.declared.span.Span.{Span}
use Rattle.std.specs.Prelude.{ℕ, ◌+◌, max, Bool, true, false, if◌then◌else◌, List, [], ◌∷◌, ◌++◌}
use Rattle.zf_tree.specs.declared.symbol.Connective.TheVariants.{And}
use Rattle.zf_tree.specs.declared.operator.Operator.{Operator}
use Rattle.zf_tree.specs.declared.operator.Operator.TheVariants as operator
use Rattle.zf_reference.specs.{renumbered}
use Rattle.zf_term.specs.ResolvedTrees.{ResolvedTree, reference, number, constant, empty_set, bracket, listed, comprehension, unary, binary, chain, quantified, ResolvedTrees, no_terms, term, ResolvedLinks, no_links, link, Ranges, no_ranges, range, ResolvedPart, absent, present}

-- from the first token to the last
abbrev pub term_span : ResolvedTree → Span
term_span (reference l r) = l
term_span (number l v) = l
term_span (constant l c) = l
term_span (empty_set l t) = l
term_span (bracket l t) = l
term_span (listed l form ts) = l
term_span (comprehension l rs p t) = l
term_span (unary l op t) = l
term_span (binary l op a b) = l
term_span (chain l t ks) = l
term_span (quantified l q rs p t) = l

-- ---- nodes and height

-- what `join` makes of the terms in a term, with one for itself; brackets do not count
abbrev mutual
  pub measure : (join : ℕ → ℕ → ℕ) → ResolvedTree → ℕ
  measure join (empty_set l t) = measure join t + 1
  measure join (bracket l t) = measure join t
  measure join (listed l form ts) = terms_measure join ts + 1
  measure join (comprehension l rs p t) = join (join (ranges_measure join rs) (part_measure join p)) (part_measure join t) + 1
  measure join (unary l op t) = measure join t + 1
  measure join (binary l op a b) = join (measure join a) (measure join b) + 1
  measure join (chain l t ks) = join (measure join t) (links_measure join ks) + 1
  measure join (quantified l q rs p t) = join (join (ranges_measure join rs) (part_measure join p)) (measure join t) + 1
  measure join _ = 1

  pub terms_measure : (join : ℕ → ℕ → ℕ) → ResolvedTrees → ℕ
  terms_measure join no_terms = 0
  terms_measure join (term t ts) = join (measure join t) (terms_measure join ts)

  pub links_measure : (join : ℕ → ℕ → ℕ) → ResolvedLinks → ℕ
  links_measure join no_links = 0
  links_measure join (link r t ks) = join (measure join t) (links_measure join ks)

  pub ranges_measure : (join : ℕ → ℕ → ℕ) → Ranges → ℕ
  ranges_measure join no_ranges = 0
  ranges_measure join (range n t rs) = join (measure join t) (ranges_measure join rs)

  pub part_measure : (join : ℕ → ℕ → ℕ) → ResolvedPart → ℕ
  part_measure join absent = 0
  part_measure join (present t) = measure join t

-- how many terms there are
abbrev pub nodes : ResolvedTree → ℕ
nodes = measure ◌+◌

abbrev pub height : ResolvedTree → ℕ
height = measure max

-- ---- components numbered anew

abbrev mutual
  pub moved : (ℕ → ℕ) → ResolvedTree → ResolvedTree
  moved f (reference l r) = reference l (renumbered f r)
  moved f (number l v) = number l v
  moved f (constant l c) = constant l c
  moved f (empty_set l t) = empty_set l (moved f t)
  moved f (bracket l t) = bracket l (moved f t)
  moved f (listed l form ts) = listed l form (all_moved f ts)
  moved f (comprehension l rs p t) = comprehension l (ranges_moved f rs) (part_moved f p) (part_moved f t)
  moved f (unary l op t) = unary l op (moved f t)
  moved f (binary l op a b) = binary l op (moved f a) (moved f b)
  moved f (chain l t ks) = chain l (moved f t) (links_moved f ks)
  moved f (quantified l q rs p t) = quantified l q (ranges_moved f rs) (part_moved f p) (moved f t)

  pub all_moved : (ℕ → ℕ) → ResolvedTrees → ResolvedTrees
  all_moved f no_terms = no_terms
  all_moved f (term t ts) = term (moved f t) (all_moved f ts)

  pub links_moved : (ℕ → ℕ) → ResolvedLinks → ResolvedLinks
  links_moved f no_links = no_links
  links_moved f (link r t ks) = link r (moved f t) (links_moved f ks)

  pub ranges_moved : (ℕ → ℕ) → Ranges → Ranges
  ranges_moved f no_ranges = no_ranges
  ranges_moved f (range n t rs) = range n (moved f t) (ranges_moved f rs)

  pub part_moved : (ℕ → ℕ) → ResolvedPart → ResolvedPart
  part_moved f absent = absent
  part_moved f (present t) = present (moved f t)

-- ---- conjuncts: a predicate is split at its outermost `\land` symbols, brackets ignored; a part that is not split keeps its brackets

abbrev pub is_and : Operator → Bool
is_and (operator.Connective And) = true
is_and _ = false

-- a conjunction, within brackets or without
abbrev pub is_conjunction : ResolvedTree → Bool
is_conjunction (bracket l t) = is_conjunction t
is_conjunction (binary l op a b) = is_and op
is_conjunction _ = false

abbrev pub conjuncts : ResolvedTree → List ResolvedTree
conjuncts (bracket l t) = if is_conjunction t then conjuncts t else bracket l t ∷ []
conjuncts (binary l op a b) = if is_and op then conjuncts a ++ conjuncts b else binary l op a b ∷ []
conjuncts t = t ∷ []
