mod Prelude
pub mod Decided
pub mod Combined
pub mod Terms
pub mod Limits
pub mod Schemas
pub mod Items
