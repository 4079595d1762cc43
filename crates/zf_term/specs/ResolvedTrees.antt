-- Resolved terms as plain data: each has the span from its first token to its last, and each name says what it stands for.
use Rattle.zf_tree.specs.declared.span.Span.{Span}
use Rattle.std.specs.Prelude.{ℕ}
use Rattle.zf_tree.specs.declared.symbol.Constant.{Constant}
use Rattle.zf_tree.specs.declared.symbol.Quantifier.{Quantifier}
use Rattle.zf_tree.specs.declared.symbol.Relation.{Relation}
use Rattle.zf_tree.specs.declared.operator.Listed.{Listed}
use Rattle.zf_tree.specs.declared.operator.Operator.{Operator}
use Rattle.zf_tree.specs.declared.operator.Unary.{Unary}
use Rattle.zf_reference.specs.declared.reference.Reference.{Reference}

mutual
  pub data ResolvedTree : Type 0 where
    reference : Span → Reference → ResolvedTree
    number : Span → ℕ → ResolvedTree
    constant : Span → Constant → ResolvedTree
    empty_set : Span → ResolvedTree → ResolvedTree
    bracket : Span → ResolvedTree → ResolvedTree
    listed : Span → Listed → ResolvedTrees → ResolvedTree
    comprehension : Span → Ranges → ResolvedPart → ResolvedPart → ResolvedTree
    unary : Span → Unary → ResolvedTree → ResolvedTree
    binary : Span → Operator → ResolvedTree → ResolvedTree → ResolvedTree
    chain : Span → ResolvedTree → ResolvedLinks → ResolvedTree
    quantified : Span → Quantifier → Ranges → ResolvedPart → ResolvedTree → ResolvedTree

  pub data ResolvedTrees : Type 0 where
    no_terms : ResolvedTrees
    term : ResolvedTree → ResolvedTrees → ResolvedTrees

  -- the further parts of a chain of relations
  pub data ResolvedLinks : Type 0 where
    no_links : ResolvedLinks
    link : Relation → ResolvedTree → ResolvedLinks → ResolvedLinks

  -- the declared sets of bound variables, each with the number of its variables
  pub data Ranges : Type 0 where
    no_ranges : Ranges
    range : (variables : ℕ) → ResolvedTree → Ranges → Ranges

  -- a part that may be left out
  pub data ResolvedPart : Type 0 where
    absent : ResolvedPart
    present : ResolvedTree → ResolvedPart
