-- What the definitions of this crate and its contracts take from elsewhere, passed on from one place.
pub use Rattle.std.specs.List.{AllByRecursion, sum_by}
pub use Rattle.std.specs.Option.{IfSome, option_map_or, IsSomeAnd}
pub use Rattle.zf_tree.specs.declared.symbol.Relation.TheVariants.{Equal}
pub use Rattle.zf_tree.specs.declared.tree.RefMark.{RefMark}
pub use Rattle.zf_tree.specs.declared.tree.RefMark.TheVariants.{Plain, Delta, Xi}
pub use Rattle.zf_tree.specs.declared.span.Span.{Span}
pub use Rattle.zf_term.specs.{carrier, chain, Comp, DeclaredSet, first_named, link, moved, no_links, one_holds, reference, ResolvedTree, Schema, sets_of, sides, sides_span, Ty, AreFew, clash, HasLeft, Offence, schema_of, too_large, type_of, IsTooLarge, IsWithin, comp_of, components_max, set_of, conjunct_of, KeepsTo, numbering, IsLow, nodes, set_count, set_nodes}
pub use Rattle.zf_constraints.specs.{constraints, enriched}
pub use Rattle.zf_term.specs.declared.schema.Component.{Component}
pub use Rattle.zf_reference.specs.{place_in}
