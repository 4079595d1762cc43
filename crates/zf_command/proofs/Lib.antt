mod Prelude
pub mod Commands
pub mod Numbers
pub mod Refusals
pub mod SizeWords
pub mod Excluded
