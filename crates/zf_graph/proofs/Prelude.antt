-- What the proofs of this crate take from elsewhere, passed on from one place.
pub use Rattle.std.proofs.Common.{◌++◌, ◌+◌, ◌<◌, ◌∙◌, ◌∷◌, ◌≡◌, ◌≤◌, ◌⊎◌, [], ap, arith, Bool, cond, false, inl, inr, length, length-append, List, map, None, Option, refl, Some, subst, suc, sym, true, zero, ℕ, take, ap₂}
pub use Rattle.std.proofs.lemmas.Bool.{cases_Bool, cases_lt, false≢true, cond-false, cond-true, or_cases, or_left, or_right}
pub use Rattle.std.proofs.lemmas.List.{append-nil, append_assoc, same_from_push, map-append}
pub use Rattle.std.proofs.lemmas.Option.{slice_get_within, get_or_from_slice_get, slice_get-get_or}
pub use Rattle.std.specs.Prelude.{Contains, slice_get, ◌-◌, AllPairs, not}
pub use Rattle.zf_graph.specs.{along, arrive, arrive_all, at_first, at_root, beyond, Edge, end_of, Explored, Explores, ExploresAll, ExploresUpTo, Follows, Graph, is_met, IsMet, IsOf, IsReachable, IsWay, Met, nodes_of, number_in, Turn, with_edge, with_ends, with_node, AreOthers, found, IsDecisive, open_ended, Result, Sought, untold, Begins, broken, EachNodeHasTurn, ended, ends, inner_edges, IsSomehowWritten, no_turn, paused, text_up_to, Words, AreFinds, AreFirst, EachHolds, IsOrderly, Searched, begun_text, edge_text, edges_text, Ending, IsExplored, IsFrontTurn, IsPartlyExplored, IsSure, PartsAreFronts, stuck_text, turns_text, BeginsParts, BreaksParts, HasParts, BreaksTurn, explored_of, HasTurn, FindsShortest, HasEachStep, MeetsOnce, MeetsReachable, MeetsShortly, IsNumbered, way_text, doubts, finds, IsSearched, IsSearchedInOneWay, misses, missing, IsWrittenInOneWay, SeeksBefore, SeeksIn, FoundIsShortest, MissingIsNowhere, EachIsTold, IsSomehowSearched, edges_in, StandsBefore, StandsIn, graph_of, IsFound}
pub use Rattle.zf_walk.proofs.Lists.{AllPairs-across, AllPairs-head, AllPairs-tail, Contains-cases, Contains-head, Contains-later, Contains-right, AllPairs-cons, AllPairs-nil, Contains-either, Contains-left, Contains-nil}
pub use Rattle.std.specs.List.{position_or_len, list_any}
pub use Rattle.zf_graph.specs.Seeking.{breaks, pauses}
