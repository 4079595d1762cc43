-- What the definitions of this crate and its contracts take from elsewhere, passed on from one place.
pub use Rattle.zf_value.specs.declared.plain.Value.{Value, Elem, Tuple, Int, SetOf}
pub use Rattle.zf_value.specs.declared.value.Outcome.{Outcome}
pub use Rattle.zf_value.specs.declared.value.Outcome.TheVariants.{Is, Undefined, Out}
pub use Rattle.zf_value.specs.declared.value.Truth.{Truth}
pub use Rattle.zf_term.specs.declared.extent.Infinite.TheVariants.{Num, Nat, Nat1}
pub use Rattle.zf_term.specs.{basic, int, no_types, power, product, Ty, type, Tys, abbreviation, constructor, Defined, Definition, free_type, given_set, schema, binary, bracket, comprehension, chain, constant, empty_set, link, listed, no_links, number, quantified, reference, resolved_of, ResolvedPart, ResolvedTree, unary, first_named, globals_of, references, absent, no_ranges, no_terms, present, range, Ranges, ResolvedLinks, term, Comp, types, definition_of, type_of, part_of, resolved_link_of, range_of}
pub use Rattle.zf_value.specs.{IsCross, IsPower, members, AreElements, AreFrom, IsEmptySet, IsNumber, IsSetOf, IsInterval, IsAscending}
pub use Rattle.zf_outcome.specs.{one_more, OnOne, OnSeveral, Several, values, IsTold, IsLink, BinaryOutcome, IsConjunction, IsConnected, IsQuantified, ListedOutcome, OnBoth, one_out, one_undefined, opposite, repeated, UnaryOutcome, lack_with, several_by, several_of, found_outcome, IsOver, Describes, InfixOutcome, found_of}
pub use Rattle.zf_reference.specs.declared.reference.Reference.TheVariants.{Local, Component, Global}
pub use Rattle.zf_tree.specs.declared.symbol.Quantifier.{Quantifier}
pub use Rattle.zf_term.specs.declared.resolved.Resolved.{Resolved, size-Resolved}
pub use Rattle.std.specs.Option.{option_and_then, option_map_or, is_some}
pub use Rattle.zf_reference.specs.declared.reference.Reference.{Reference}
pub use Rattle.zf_tree.specs.declared.symbol.Relation.{Relation}
pub use Rattle.zf_term.specs.declared.extent.Infinite.{Infinite}
pub use Rattle.zf_tree.specs.declared.operator.Operator.TheVariants.{Connective, Application}
pub use Rattle.zf_extent.specs.{is_membership, direct}
pub use Rattle.zf_term.specs.ResolvedTrees.{ResolvedTrees}
pub use denote.Bor.{Bor}
pub use Rattle.zf_value.specs.declared.TheConstants.{SET_MAX}
pub use Rattle.std.specs.List.{AllByRecursion, All, list_any}
pub use Rattle.zf_tree.specs.declared.span.Span.{Span}
