mod Prelude
pub mod Naming
pub mod Needs
pub mod Planted
pub mod Held
