mod Prelude
pub mod FirstCauses
pub mod FiniteSchemas
