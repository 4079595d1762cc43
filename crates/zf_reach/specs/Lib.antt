pub mod Machines
pub mod Runs
pub mod Searches
pub use Rattle.zf_reach.specs.Machines.{AdvancesTo, BeginsAs, ending_of, HasFewer, IsSeenAs, result_of, UnlessOut}
pub use Rattle.zf_reach.specs.Runs.{AtTurn, Closes, counted, cut, edge, InParts, InTurn, IsFull, IsStuck, KeepsNodes, LeavesTurn, StopsEarly, StopsSearch}
pub use Rattle.zf_reach.specs.Searches.{AtSearch, Brings, by, Concludes, EndsWithout, InSearch, IsArrival, IsChain, IsEarlier, IsFoundBy, IsTrail, LeavesSearch, over, SaysStep, SaysWay, SeesNew}
