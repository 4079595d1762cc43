-- What a conjunct is shown by.
use Rattle.std.specs.Prelude.{◌==◌, ◌&&◌, ℕ, Bool, if◌then◌else◌, Option, Some, None}
use Rattle.zf_tree.specs.declared.span.Span.{Span}
use Rattle.zf_tree.specs.declared.symbol.Relation.{Relation}
use Rattle.zf_tree.specs.declared.symbol.Relation.TheVariants as relation
use Rattle.zf_reference.specs.declared.reference.Reference.TheVariants.{Component}
use Rattle.zf_why.specs.Prelude.{chain, link, no_links, reference, ResolvedLinks, ResolvedTree, term_span}
use Rattle.zf_why.specs.declared.part.Part.{Part}
use Rattle.zf_why.specs.declared.part.Part.TheVariants.{Member, Text, Unchanged}

abbrev pub is_same : Span → Span → Bool
is_same a b = (a.start == b.start) && (a.stop == b.stop)

-- the component that a term is the name of
abbrev pub component_of : ResolvedTree → Option ℕ
component_of (reference l (Component i)) = Some i
component_of _ = None

abbrev pub linked_part : Span → Relation → (left right : Option ℕ) → Part
linked_part s relation.Member (Some i) right = Member i s
linked_part s relation.Equal (Some i) (Some j) = Unchanged s i j
linked_part s r left right = Text s

-- a relation whose left operand takes its whole place is written nowhere: it comes of a declaration, or of `\Xi`
abbrev pub chain_part : Span → ResolvedTree → ResolvedLinks → Part
chain_part s t (link r u no_links) = if is_same (term_span t) s then linked_part s r (component_of t) (component_of u) else Text s
chain_part s t ks = Text s

abbrev pub part_of : ResolvedTree → Part
part_of (chain s t ks) = chain_part s t ks
part_of t = Text (term_span t)
