mod Prelude
pub mod Tests
pub mod Cuts
pub mod Typed
pub mod DeclaredSets
pub mod Ranges
pub mod Searches
pub mod Turns
