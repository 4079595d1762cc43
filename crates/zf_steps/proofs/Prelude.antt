-- What the proofs of this crate take from elsewhere, passed on from one place.
pub use Rattle.std.proofs.Common.{◌+◌, ◌<◌, ◌∙◌, ◌≡◌, [], ap, arith, Bool, false, inl, List, Option, refl, Some, subst, suc, sym, true, ℕ, ◌∷◌, ◌≤◌, ◌↔◌, drop, get_or, inr, IsTrue, length, map, ◌++◌, append-nil, codes, take, zero, Err, IfOk, Ok, OnOk, Result, ◌≢◌, None, ⊎_elim, OnErr, rules, ◌⊎◌, filter_map}
pub use Rattle.std.specs.Prelude.{unwrap_or, slice_get, slice_index_or, slice_set, if◌then◌else◌, Contains, cond, decimal, MatchOption}
pub use Rattle.zf_graph.proofs.Going.{begins_with_none, begins_in_part, breaks_in_part, one_more_part}
pub use Rattle.zf_graph.specs.{AreFirst, BeginsTurn, Explored, Turn, AreFinds, BeginsParts, BreaksParts, BreaksTurn, EachHolds, HasParts, with_edge, IsDecisive, IsOf, IsSearchedInOneWay, IsSure, IsExplored, IsSearched}
pub use Rattle.zf_reach.specs.{AdvancesTo, HasFewer, IsSeenAs, StopsSearch, ending_of, StopsEarly, result_of}
pub use Rattle.zf_value.specs.declared.plain.Value.{Value}
pub use Rattle.zf_value.specs.{value_order, IsMember}
pub use Rattle.zf_walk.proofs.Lists.{AllPairs-nil, Contains-nil, Contains-cases, Contains-head, Contains-later, Contains-either}
pub use Rattle.zf_walk.specs.declared.judge.Truth.TheVariants.{Out, True, False}
pub use Rattle.zf_walk.specs.Conjuncts.{Conjuncts}
pub use Rattle.zf_walk.specs.{Advances, ComesAfter, Event, IsEvent, IsNoneAhead, SameRanges, Stage, Takes, IsRowOf, Ahead}
pub use Rattle.zf_enum.specs.{property, Begins, conjuncts_of, portion}
pub use Rattle.zf_instances.specs.{CanHold, planted_goal}
pub use Rattle.zf_steps.specs.declared.node.Label.{Label}
pub use Rattle.zf_steps.specs.declared.node.Node.{Node}
pub use Rattle.zf_steps.specs.declared.node.Node.TheVariants.{State, Root}
pub use Rattle.zf_steps.specs.{BeginsFor, BeginsState, begun_as, exploration, GoesOn, HasFound, HasPassed, held_by, IsEventOf, IsFirstOf, IsFound, IsSight, IsStray, Operation, parts_of, rows_ahead, searched, sought_in, stopped, System, Allows, AllowsAll, StateClashes, column, AreFor, Fits, HasPart, number_of, rows_ahead_at, search_of, Stands, AreMarked, AreMarkedHeld, CanSearch, GoesBy, GoesOver, IsFor, stage_of, AgreesWith, HasRow, IsOther, IsRowIn, IsSought, Satisfies, sources_of, test_in, IsFoundAt, never_both, step, stop, values_of, Has, HasAll, init_in, is_other, IsInit, Lacks, others_from, with_strokes, decisive, explored_in, orderly, steps, verdict, words, words_in, system_of, label_of, column_text, operation_of, operation_text, IsForIn, stage_in, step_members, source_value, before_of, LacksInit, place_of, places_of, both_states, LacksStep, stroked, are_after, names_any}
pub use Rattle.zf_steps.specs.declared.stepped.Stepped.{Stepped}
pub use Rattle.zf_places.specs.{values_at, comps_at}
pub use Rattle.zf_graph.proofs.Places.{one_some, none_some, at_map}
pub use Rattle.zf_term.specs.{Comp, comp_of, first_named, Schema, schema_of}
pub use Rattle.zf_term.specs.declared.schema.Component.{Component}
pub use Rattle.std.proofs.lemmas.List.{append_assoc, map-append, take_more, length-map}
pub use Rattle.std.specs.List.{AllByRecursion}
pub use Rattle.std.proofs.lemmas.Option.{slice_get-get_or}
pub use Rattle.zf_meaning.specs.{Environment, environment_of}
pub use Rattle.std.specs.Option.{is_some}
pub use Rattle.zf_ranges.specs.{AreRanges, held_at}
pub use Rattle.zf_reach.proofs.Fronts.{front_whole, always_on_err}
pub use Rattle.std.specs.Io.KnownBytes.{Appends}
pub use Rattle.zf_lines.specs.{device_of}
pub use Rattle.zf_print.specs.{component_texts, binding_object}
pub use Rattle.zf_lines.proofs.Fronts.{weaker_on_ok}
pub use Rattle.zf_ranges.proofs.Comps.{held_got, comp_at}
