-- What the definitions of this crate and its contracts take from elsewhere, passed on from one place.
pub use Rattle.zf_term.specs.{ResolvedTree, binary, bracket, comprehension, chain, constant, empty_set, listed, no_ranges, number, quantified, range, Ranges, reference, ResolvedLinks, ResolvedPart, unary, resolved_of}
pub use Rattle.zf_value.specs.declared.value.Outcome.{Outcome}
pub use Rattle.zf_meaning.specs.{Environment, environment_of, IsBehind, in_row, IsTruth, longer, UsesFirst, Context, AreLinked, Builds, HasOutcome, HaveOutcomes, HaveRanges, infinite_in, IsConstraint}
pub use Rattle.zf_value.specs.declared.plain.Value.{Value}
pub use Rattle.zf_value.specs.declared.value.Truth.{Truth}
pub use Rattle.zf_extent.specs.{constant_set}
pub use Rattle.zf_term.specs.ResolvedTrees.{ResolvedTrees}
pub use Rattle.zf_tree.specs.declared.span.Span.{Span}
