-- What the definitions of this crate and its contracts take from elsewhere, passed on from one place.
pub use Rattle.zf_reference.specs.declared.reference.Reference.{Reference}
pub use Rattle.zf_reference.specs.declared.reference.Reference.TheVariants.{Component, Local, Global}
pub use Rattle.zf_term.specs.{absent, binary, bracket, comprehension, chain, link, no_links, present, quantified, reference, ResolvedTree, Schema, resolved_of, references, range_of, ranges, schema_of, conjunct_of}
pub use Rattle.zf_value.specs.declared.plain.Value.{Value, Int}
pub use Rattle.zf_value.specs.{value_order, IsMember, members}
pub use Rattle.zf_walk.specs.{Event, IsBound, IsEvents, IsNumberOfTests, IsRowOf, FollowUsed, HaveOneTruth, KeepTruths, AreAllAhead, Stage, picked, Advances, AreAscending, AreDueWithin, AreTests, ended, HasLength, IsBounded, SameProblem, Stays, AreWithin, past, SameRanges}
pub use Rattle.zf_meaning.specs.{Environment, HasOutcome, in_row, IsTruth, AreBelow, IsBelow, UsesFirst, environment_of}
pub use Rattle.zf_ranges.specs.{AreRanges, IsNoneOut, RefusesStart}
pub use Rattle.zf_tree.specs.declared.symbol.Relation.TheVariants.{Equal}
pub use Rattle.zf_value.specs.declared.value.Outcome.{Outcome}
pub use Rattle.zf_value.specs.declared.value.Outcome.TheVariants.{Is, Undefined, Out}
pub use Rattle.zf_plan.specs.{SayTheSame, planted, Tree, StaysIn}
pub use Rattle.std.specs.Option.{option_map_or, option_copied}
pub use Rattle.zf_value.specs.declared.value.Truth.{Truth}
pub use Rattle.zf_walk.specs.Conjuncts.{Conjuncts}
pub use Rattle.std.proofs.Common.{refl, sym, ap, subst, arith}
pub use Rattle.std.specs.Int.{w32}
pub use Rattle.zf_extent.specs.{is_membership}
pub use Rattle.zf_outcome.specs.{Holds, InfixOutcome}
pub use Rattle.std.specs.declared.cmp.Ordering.TheVariants.{Less}
pub use Rattle.zf_finite.specs.{IsFinite}
pub use Rattle.zf_tree.specs.declared.span.Span.{Span}
