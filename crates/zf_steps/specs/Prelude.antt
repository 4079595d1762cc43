-- What the definitions of this crate and its contracts take from elsewhere, passed on from one place.
pub use Rattle.zf_graph.specs.{Explored, Sought, broken, ended, Ending, found, missing, open_ended, paused, Result, untold, Words, Turn, EachHolds, Edge, HasParts, Graph, graph_of, explored_of, Searched, HasTurn, IsDecisive, IsOrderly, IsExplored, IsSearched, IsOf, IsSearchedInOneWay, IsSure}
pub use Rattle.zf_term.specs.{Schema, Comp, schema_of, sets_of, first_named, comp_of, ResolvedTree}
pub use Rattle.zf_value.specs.declared.plain.Value.{Value}
pub use Rattle.zf_value.specs.{value_order}
pub use Rattle.zf_walk.specs.{Advances, AreAllAhead, SameRanges, Stage, IsTruthOf, Event, ComesAfter, IsEvent}
pub use Rattle.zf_meaning.specs.{Environment, environment_of}
pub use Rattle.zf_enum.specs.{property, conjuncts_of, one_truth_in, Begins, portion}
pub use Rattle.zf_instances.specs.{planted_goal, CanHold}
pub use Rattle.zf_ranges.specs.{AreRanges, held_at, IsNoneOut, IsHeld, IsInSets, RefusesStart}
pub use Rattle.zf_print.specs.declared.spelling.Spelling.{Spelling}
pub use Rattle.zf_print.specs.{components_in, binding_object, binding_text, component_text}
pub use Rattle.zf_reach.specs.{AdvancesTo, BeginsAs, UnlessOut, HasFewer, IsSeenAs, ending_of, StopsEarly, result_of, StopsSearch}
pub use Rattle.zf_places.specs.{values_at, comps_at}
pub use Rattle.zf_format.specs.{string_text}
pub use Rattle.std.specs.List.{AllByRecursion, filter_map, list_any}
pub use Rattle.zf_finite.specs.{IsFinite}
pub use Rattle.zf_walk.specs.declared.judge.Truth.{Truth}
pub use Rattle.zf_walk.specs.declared.judge.Truth.TheVariants.{True, False, Out}
pub use Rattle.std.proofs.Common.{ap, ap₂, false, inl, inr, refl, subst, sym}
pub use Rattle.std.specs.Io.KnownBytes.{Appends}
pub use Rattle.zf_lines.specs.{device_of, failures_of, read_failures, write_failures}
