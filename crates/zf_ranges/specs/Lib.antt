pub mod Prelude
pub mod DeclaredSets
pub mod Ranges
pub mod StartFaults
pub mod Parts
pub mod Components
pub mod OfTypes
pub use Rattle.zf_ranges.specs.DeclaredSets.{has_endless, IsCarrierOut, IsInCarrier, IsInOne, IsInPlain, IsInSet, IsInSets, IsOneOut, IsPlainOut, IsSetOut}
pub use Rattle.zf_ranges.specs.Ranges.{AreRanges, first_held, IsComponentRange, IsFirstOut, IsHeld, IsNoneOut, IsOutAt, later_held}
pub use Rattle.zf_ranges.specs.StartFaults.{RefusesStart}
unfoldable pub use Rattle.zf_ranges.specs.Parts.{Grows}
pub use Rattle.zf_ranges.specs.Parts.{BoundsAt, Filters, IsAllOf, IsAllOfEach, IsAllWith, IsIn, IsListed, Lists, Narrows, NarrowsAll, Tells}
pub use Rattle.zf_ranges.specs.Components.{AreAllRanges, AreHeldRanges, held_at, IsHeldRange, IsOneRange, IsOutBy}
pub use Rattle.zf_ranges.specs.OfTypes.{AreAllOf, IsNumberHere}
