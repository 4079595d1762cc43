mod Prelude
pub mod Taken
