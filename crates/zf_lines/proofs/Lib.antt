mod Prelude
pub mod Fronts
pub mod Behind
pub mod Growing
pub mod Telling
pub mod Fewer
pub mod Lines
pub mod Searching
pub mod Standing
pub mod Keeping
pub mod Parts
pub mod LastLine
pub mod Beginning
