-- What the definitions of this crate and its contracts take from elsewhere, passed on from one place.
pub use Rattle.zf_walk.specs.declared.judge.Truth.{Truth}
pub use Rattle.zf_walk.specs.Conjuncts.{Conjuncts}
pub use Rattle.zf_walk.specs.{AreWithin, HasBit, IsRowOf, picked, cut, IsCount, IsWalked, under, unseen, AreTrue, HaveOneTruth, KeepTruths, Ahead, AreAscending, AreDueWithin, ended, Event, HasLength, is_reached, IsEvent, IsNoneAhead, IsSeen, reaches, Takes, TiesAreEqual, SameRanges, Stage, Advances, AreAllAhead, AreTests, IsBounded, past, Stays, SameProblem}
pub use Rattle.zf_walk.specs.declared.judge.Truth.TheVariants.{False, True, Out}
pub use Rattle.std.specs.declared.cmp.Ordering.{Ordering}
pub use Rattle.zf_walk.specs.declared.table.Table.{Table}
pub use Rattle.std.specs.Option.{option_copied}
pub use Rattle.zf_walk.specs.declared.seen.Seen.{Seen}
