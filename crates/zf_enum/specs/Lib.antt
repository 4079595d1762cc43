pub mod Prelude
pub mod Property
pub mod Uses
pub mod PropertyLaws
pub mod Dues
pub mod Portions
pub mod PortionViews
pub mod Events
pub mod EventLaws
pub mod Starts
pub mod Searches
pub mod Fixing
pub mod Keys
pub mod Spans
pub mod Sums
pub mod Spreads
pub use Rattle.zf_enum.specs.Property.{due, due_of, greatest_place, HasTruth, place_named, property, told}
pub use Rattle.zf_enum.specs.Uses.{is_among, is_component, uses, uses_of}
pub use Rattle.zf_enum.specs.PropertyLaws.{follows_outcome, one_truth_in, uses_first}
pub use Rattle.zf_enum.specs.Dues.{need, place_up_to}
pub use Rattle.zf_enum.specs.Portions.{Portion}
pub use Rattle.zf_enum.specs.PortionViews.{behind, portion}
pub use Rattle.zf_enum.specs.Events.{AreTests}
pub use Rattle.zf_enum.specs.EventLaws.{AreEvents, EventsResume, IsBoundOf, OneEvents, OneRanges, TestsAreBound}
pub use Rattle.zf_enum.specs.Starts.{Begins, BeginsCounting}
pub use Rattle.zf_enum.specs.Searches.{conjuncts_of, counted_goal, Goal, judged}
pub use Rattle.zf_enum.specs.Fixing.{AreCandidates, Fixes, GoesOn, HasPlace, IsBeside, IsKept, IsName}
unfoldable pub use Rattle.zf_enum.specs.Keys.{number_of}
pub use Rattle.zf_enum.specs.Keys.{AreSides, HasKey, HasKeyWith, IsKey, IsKeyed, IsKeyOfValue, IsOnly, key_side}
pub use Rattle.zf_enum.specs.Spans.{IsSmall}
pub use Rattle.zf_enum.specs.Sums.{AreRuledOut, IsDifferenceOf, IsIntervalAhead, IsIntervalOf, IsIntervalOver, IsRuledOut}
pub use Rattle.zf_enum.specs.Spreads.{AddsSpreads, AreSpreads, AsksFor, Equates, IsSetOver, IsSpread, IsThere}
