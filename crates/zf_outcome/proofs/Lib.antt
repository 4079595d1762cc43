mod Prelude
pub mod Comparisons
pub mod Tests
