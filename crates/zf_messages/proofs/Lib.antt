pub mod Prelude
pub mod Lines
pub mod Words
pub mod Told
pub mod Listing
