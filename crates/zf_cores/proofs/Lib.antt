mod Prelude
pub mod Choosing
pub mod LeftOut
