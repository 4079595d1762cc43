pub mod Prelude
pub mod Lifted
pub mod Same
pub mod Needs
pub mod Lifts
pub mod Lists
pub mod Gathering
pub use Rattle.zf_lift.specs.Lifted.{AreEach, AreLifted, IsLifted, IsLonger}
pub use Rattle.zf_lift.specs.Same.{AreSame, AreSameLinks, AreSameRanges, IsSame, IsSamePart}
pub use Rattle.zf_lift.specs.Needs.{all_need, links_need, need, part_need, place, ranges_need}
unfoldable pub use Rattle.zf_lift.specs.Lifts.{AreLifts, AreLinkLifts, AreRangeLifts, IsClosed, IsLift, IsPartLift}
pub use Rattle.zf_lift.specs.Lifts.{at, is_liftable, Keeps, variables_of, Wherever}
pub use Rattle.zf_lift.specs.Lists.{AreAllLifts, IsLinkLift, IsRangeLift}
pub use Rattle.zf_lift.specs.Gathering.{Follows, IsLater, IsNamed}
