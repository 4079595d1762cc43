pub mod Conjuncts
pub mod ConjunctLaws
pub mod Rows
pub mod RowLaws
pub mod Events
pub mod EventLists
pub mod Tests
pub mod TestBounds
pub mod Progress
pub mod Laws
pub mod Picked
pub mod Order
pub mod Seen
pub mod Tables
pub use Rattle.zf_walk.specs.Conjuncts.{IsTruthOf}
pub use Rattle.zf_walk.specs.ConjunctLaws.{FollowUsed, HaveOneTruth, KeepTruths}
pub use Rattle.zf_walk.specs.Rows.{ComesAfter, IsFrontOf, IsLater, IsRowOf}
pub use Rattle.zf_walk.specs.RowLaws.{AreAscending, HasLength, TiesAreEqual}
pub use Rattle.zf_walk.specs.Events.{Event, IsEvent}
pub use Rattle.zf_walk.specs.EventLists.{IsEvents}
pub use Rattle.zf_walk.specs.Tests.{cut, IsCount, IsDueTest, IsNumberOfTests, IsReached, IsUpTo, IsWalked}
pub use Rattle.zf_walk.specs.TestBounds.{IsBound}
pub use Rattle.zf_walk.specs.Progress.{Advances, Ahead, AreAllAhead, AreDueWithin, AreTests, ended, IsAhead, IsBounded, IsNoneAhead, IsRest, past, SameAhead, SameProblem, SameRanges, Stage, Stays, Takes}
pub use Rattle.zf_walk.specs.Laws.{EndsWithNone, HasOneList, Resumes, StartsWithAll, StaysWithinBound, TakesFirst}
pub use Rattle.zf_walk.specs.Picked.{AreWithin, picked}
pub use Rattle.zf_walk.specs.Order.{first_of, is_reached, reaches, under}
pub use Rattle.zf_walk.specs.Seen.{HasBit, IsSeen, unseen}
pub use Rattle.zf_walk.specs.Tables.{AreTables, AreTrue, AreUsed, combinations, Fits, HavePlaces, IsMarked, IsTableOf, Keeps, known, number, told}
