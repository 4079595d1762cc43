-- Trees as plain data: a form for each form of ZRM 6 that is read.
use Rattle.std.specs.Prelude.{ℕ, List}
use Rattle.zf_tree.specs.declared.symbol.Constant.{Constant}
use Rattle.zf_tree.specs.declared.symbol.Quantifier.{Quantifier}
use Rattle.zf_tree.specs.declared.symbol.Relation.{Relation}
use Rattle.zf_tree.specs.declared.tree.Name.{Name}
use Rattle.zf_tree.specs.declared.operator.Listed.{Listed}
use Rattle.zf_tree.specs.declared.operator.Operator.{Operator}
use Rattle.zf_tree.specs.declared.operator.Unary.{Unary}
use Rattle.zf_tree.specs.declared.tree.SchemaRef.{SchemaRef}
use Rattle.zf_tree.specs.declared.span.Span.{Span}

-- ---- terms, each with the span from its first token to its last

mutual
  pub data Tree : Type 0 where
    named : Name → Tree
    numeral : Span → ℕ → Tree
    constant : Span → Constant → Tree
    empty_set : Span → Tree → Tree
    bracket : Span → Tree → Tree
    listed : Span → Listed → Trees → Tree
    comprehension : Span → VarDecls → Perhaps → Perhaps → Tree
    unary : Span → Unary → Tree → Tree
    binary : Span → Operator → Tree → Tree → Tree
    chain : Span → Tree → Links → Tree
    quantified : Span → Quantifier → VarDecls → Perhaps → Tree → Tree

  -- operands of one node
  pub data Trees : Type 0 where
    no_trees : Trees
    tree : Tree → Trees → Trees

  -- the further parts of a chain of relations
  pub data Links : Type 0 where
    no_links : Links
    link : Relation → Tree → Links → Links

  -- declarations of bound variables
  pub data VarDecls : Type 0 where
    no_decls : VarDecls
    var_decl : List Name → Tree → VarDecls → VarDecls

  -- a part that may be left out
  pub data Perhaps : Type 0 where
    absent : Perhaps
    present : Tree → Perhaps

-- from the first token to the last
abbrev pub span_of : Tree → Span
span_of (named n) = n.span
span_of (numeral s v) = s
span_of (constant s c) = s
span_of (empty_set s t) = s
span_of (bracket s t) = s
span_of (listed s form ts) = s
span_of (comprehension s ds p t) = s
span_of (unary s op t) = s
span_of (binary s op a b) = s
span_of (chain s t ks) = s
span_of (quantified s q ds p t) = s

-- ---- declarations, schema expressions, paragraphs and boxes

pub data DeclTree : Type 0 where
  vars : List Name → Tree → DeclTree
  include : SchemaRef → DeclTree

pub data SchemaTree : Type 0 where
  schema_text : Span → List DeclTree → List Tree → SchemaTree
  schema_reference : Span → SchemaRef → SchemaTree
  both : Span → SchemaTree → SchemaTree → SchemaTree
  either : Span → SchemaTree → SchemaTree → SchemaTree
  schema_bracket : Span → SchemaTree → SchemaTree

abbrev pub schema_span : SchemaTree → Span
schema_span (schema_text s ds ps) = s
schema_span (schema_reference s r) = s
schema_span (both s a b) = s
schema_span (either s a b) = s
schema_span (schema_bracket s a) = s

pub data ParagraphTree : Type 0 where
  given : List Name → ParagraphTree
  free : Name → List Name → ParagraphTree
  abbreviation : Name → Tree → ParagraphTree
  definition : Name → SchemaTree → ParagraphTree

pub data BoxTree : Type 0 where
  zed : List ParagraphTree → BoxTree
  schema_box : Name → List DeclTree → List Tree → BoxTree
