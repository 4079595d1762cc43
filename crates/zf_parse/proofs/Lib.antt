mod Prelude
pub mod Reducing
pub mod Apart
mod BoxByBox
pub mod Answers
