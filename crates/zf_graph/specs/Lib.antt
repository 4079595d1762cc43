pub mod Edges
pub mod Graphs
pub mod Explorations
pub mod Texts
pub mod Laws
pub mod Stages
pub mod Seeking
pub mod SeekingLaws
pub mod Parts
pub mod PartLaws
pub use Rattle.zf_graph.specs.Edges.{Edge}
pub use Rattle.zf_graph.specs.Graphs.{along, at_root, end_of, Follows, Graph, IsReachable, IsShortest, IsWay}
pub use Rattle.zf_graph.specs.Explorations.{arrive, arrive_all, at_first, beyond, Explored, Explores, ExploresAll, ExploresUpTo, is_met, IsMet, Met, nodes_of, number_in, Turn, with_ends, with_node}
pub use Rattle.zf_graph.specs.Texts.{begun_text, broken, edge_text, edges_in, edges_text, ended, Ending, ends, inner_edges, IsExplored, IsPartlyExplored, no_turn, paused, stuck_text, text_up_to, turns_text, with_edge, Words}
pub use Rattle.zf_graph.specs.Laws.{Begins, EachNodeHasTurn, FindsShortest, HasEachStep, IsFrontTurn, IsOf, IsPart, IsSomehowWritten, IsSure, IsWrittenInOneWay, MeetsOnce, MeetsReachable, MeetsShortly, PartsAreFronts}
pub use Rattle.zf_graph.specs.Stages.{IsNumbered, SeeksBefore, SeeksIn, StandsBefore, StandsIn}
pub use Rattle.zf_graph.specs.Seeking.{AreOthers, doubts, finds, found, IsSearched, misses, missing, open_ended, Result, Sought, untold, way_text}
pub use Rattle.zf_graph.specs.SeekingLaws.{EachIsTold, FoundIsShortest, IsDecisive, IsSearchedInOneWay, IsSearchedPart, IsSomehowSearched, MissingIsNowhere}
pub use Rattle.zf_graph.specs.Parts.{AreFinds, AreFirst, BeginsParts, BeginsTurn, BreaksParts, BreaksTurn, EachHolds, explored_of, HasParts, HasTurn, Searched}
pub use Rattle.zf_graph.specs.PartLaws.{graph_of, IsFound, IsOrderly}
