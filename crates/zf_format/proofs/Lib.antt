pub mod Prelude
pub mod OneString
pub mod Bytes
