mod Prelude
pub mod Lists
pub mod Picking
pub mod Rows
pub mod Decided
pub mod Beginning
pub mod Explained
pub mod Disjoined
pub mod Splitting
pub mod Showing
pub mod Gathered
pub mod Tellings
pub mod NamesHeld
pub mod HeldOutcomes
