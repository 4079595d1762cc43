pub mod Prelude
pub mod Trees
pub mod Groves
pub mod Choices
pub mod Progress
pub mod Alike
pub mod Laws
pub mod Memories
pub mod Stamps
pub mod Marks
pub mod Keys
pub mod Knowing
pub mod Testing
pub mod Choosing
pub mod Sieves
pub mod Blaming
pub mod Plans
pub mod Places
pub mod Exchanges
pub mod Counts
pub mod Searches
pub mod Walks
pub use Rattle.zf_plan.specs.Trees.{both, due_of, EachLeaf, either, HasLeavesWithin, HaveLeavesWithin, IsFlat, IsOfBoth, IsOfEither, IsTreeTruth, leaf, negated, opposite, planted, Tree, tree_at}
unfoldable pub use Rattle.zf_plan.specs.Groves.{trees_made}
pub use Rattle.zf_plan.specs.Groves.{Grove, Grows, IsGrown, IsOver, IsPart, Takes, tree_of, trees_of, trees_onto}
pub use Rattle.zf_plan.specs.Choices.{IsKeyOf, StaysIn}
pub use Rattle.zf_plan.specs.Progress.{counted, SameProblem}
pub use Rattle.zf_plan.specs.Alike.{SayTheSame}
pub use Rattle.zf_plan.specs.Laws.{TreesHaveOneTruth, TreesKeepTruths}
pub use Rattle.zf_plan.specs.Memories.{AreDues, Forgets, IsNew, Memory}
pub use Rattle.zf_plan.specs.Stamps.{AreStamped, AreUnknown, cleared, IsCleared, known_by, memory_of}
pub use Rattle.zf_plan.specs.Marks.{Accuses, AreNew, is_still, Keeps, mark_at, Renews, unmarked}
pub use Rattle.zf_plan.specs.Keys.{AreKeyed, AreKeys}
unfoldable pub use Rattle.zf_plan.specs.Knowing.{IsSoFar}
pub use Rattle.zf_plan.specs.Knowing.{AreBelow, conjoined, IsAmong, IsKnown, IsLeafDue, IsLeafOrBelow, IsRefuted, IsSettled, joined, known_both, known_either, known_not, NeedsBelow, NeedsWithin, Remembers, Tells, touches}
unfoldable pub use Rattle.zf_plan.specs.Testing.{Tests}
pub use Rattle.zf_plan.specs.Testing.{AreLeaves, AreNotFalse, ArePassed, AreSeenOf, IsTested, IsTruthOfLeaves}
pub use Rattle.zf_plan.specs.Choosing.{AreLasts, IsChoice, IsChosen, IsFailed, IsNextChoice, KeepsChosen, Narrows, passing, StaysChoice, UsesFirst}
pub use Rattle.zf_plan.specs.Sieves.{AreSifted, IsGreatest, IsOneFalse}
pub use Rattle.zf_plan.specs.Blaming.{AreAlike, Covers, HasBits, IsBlamed}
pub use Rattle.zf_plan.specs.Plans.{AreChoosers, AreDue, AreTouched, IsBare, IsLayer, IsPlan, touches_inside}
unfoldable pub use Rattle.zf_plan.specs.Places.{Finds}
pub use Rattle.zf_plan.specs.Places.{above, ahead_of, AreHeld, AreKept, AreSeen, begun, below, bound, Enters, found_before, Gives, Goes, GoesOn, is_over, IsAsked, IsAt, IsFound, IsHopeless, IsKept, IsPosed, IsSound, IsTold, Jumps, KeepsEvents, Lands, LandsNext, Passes, PassesOpen, path, seen_at, Stands, steps_left}
pub use Rattle.zf_plan.specs.Exchanges.{exchanged}
pub use Rattle.zf_plan.specs.Counts.{all_of, below_it, CountsFound, CountsOn, IsCounted, IsPlain, none_of}
pub use Rattle.zf_plan.specs.Searches.{view_of}
pub use Rattle.zf_plan.specs.Walks.{IsWalk}
