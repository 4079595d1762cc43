mod Prelude
pub mod Writing
pub mod Wordings
pub mod NamedRows
pub mod Statuses
pub mod Reaching
pub mod Explored
