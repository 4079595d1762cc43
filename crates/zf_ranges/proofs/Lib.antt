mod Prelude
pub mod Listing
pub mod Held
pub mod Single
pub mod Sides
pub mod Comps
pub mod HeldRanges
pub mod Lacks
pub mod Typed
pub mod Alike
