mod Prelude
pub mod Mapped
pub mod Forms
pub mod Longer
pub mod Needs
pub mod Each
pub mod Wherever
pub mod Arms
