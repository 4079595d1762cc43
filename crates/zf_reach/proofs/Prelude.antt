-- What the proofs of this crate take from elsewhere, passed on from one place.
pub use Rattle.std.proofs.Common.{◌++◌, ◌+◌, ◌-◌, ◌<◌, ◌^◌, ◌∙◌, ◌∷◌, ◌≡◌, ◌≤◌, ◌⊎◌, [], ap, append-nil, append_assoc, arith, Bool, cond, eqb, Err, false, inl, inr, length, length-append, List, None, Ok, OnErr, OnOk, Option, refl, Result, rules, Some, subst, suc, sym, true, zero, ℕ}
pub use Rattle.std.proofs.KnownBytes.{Appends-nil, Appends-trans}
pub use Rattle.std.proofs.lemmas.Bool.{cases_Bool, cases_eq, cases_lt, cond-false, cond-true, eq-eqb, ne_eqb, false≢true, or_cases, or_parts}
pub use Rattle.std.proofs.lemmas.Option.{slice_get_within, slice_get-get_or}
pub use Rattle.std.specs.Io.KnownBytes.{Appends}
pub use Rattle.std.specs.List.{list_any, position_or_len}
pub use Rattle.std.specs.Prelude.{min, slice_get, nat_eq, not}
pub use Rattle.zf_graph.specs.{broken, Edge, edge_text, ended, Ending, Explored, IsExplored, no_turn, paused, StandsBefore, stuck_text, Turn, with_edge, with_node, Words, end_of, Met, number_in, way_text}
pub use Rattle.zf_graph.proofs.Places.{some_at, at_left, one_at, at_last, at_map, at_push, map_at, none_some, one_some}
pub use Rattle.zf_graph.proofs.Stages.{begins_before, begins_in, begins_with, ends_broken, ends_ended, ends_paused, few_nodes, is_new, node_at, place_within, stands_begun, stands_first, stands_over, stands_passed}
pub use Rattle.zf_lines.specs.{AppendsFront, device_of, failures_of}
pub use Rattle.zf_reach.specs.{AtTurn, Closes, counted, cut, InParts, InTurn, IsFull, IsStuck, KeepsNodes, StopsEarly, edge, AtSearch, BeginsAs, Brings, Concludes, EndsWithout, InSearch, IsArrival, IsEarlier, IsFoundBy, IsTrail, result_of, SaysWay, SeesNew, StopsSearch, UnlessOut, by, IsChain, over, SaysStep}
pub use Rattle.std.proofs.lemmas.List.{length-map, nil_from_length}
pub use Rattle.zf_graph.proofs.Numbers.{numbered, way_text-push}
pub use Rattle.zf_reach.specs.declared.trail.Arrival.{Arrival}
