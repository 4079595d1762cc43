-- What the definitions of this crate and its contracts take from elsewhere, passed on from one place.
pub use Rattle.zf_term.specs.{ResolvedTree, Schema, resolved_of, schema_of}
pub use Rattle.zf_value.specs.declared.plain.Value.{Value}
pub use Rattle.zf_value.specs.{value_order}
pub use Rattle.zf_walk.specs.{Event, IsEvent, AreDueWithin, HasLength}
pub use Rattle.zf_meaning.specs.{Environment, in_row, IsTruth, environment_of}
pub use Rattle.zf_ranges.specs.{AreRanges, held_at, IsNoneOut, RefusesStart}
pub use Rattle.zf_plan.specs.{SayTheSame, planted, Tree, Grove, HasLeavesWithin, IsTreeTruth, tree_at, trees_made, trees_of}
pub use Rattle.std.specs.Option.{option_copied}
pub use Rattle.zf_finite.specs.{IsFinite}
