mod Prelude
pub mod Lists
pub mod Order
pub mod Picks
pub mod Given
pub mod Reaching
pub mod Counting
pub mod Truths
pub mod LawProofs
pub mod Numbering
pub mod Marking
pub mod Telling
