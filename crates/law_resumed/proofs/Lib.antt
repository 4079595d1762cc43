pub mod Held
pub mod Rows
