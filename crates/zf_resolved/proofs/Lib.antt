pub mod Prelude
pub mod Renamings
pub mod Moved
pub mod Joining
