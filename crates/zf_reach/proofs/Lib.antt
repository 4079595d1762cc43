mod Prelude
pub mod Fronts
pub mod Passing
pub mod Running
pub mod Parts
pub mod Seeks
pub mod Trails
