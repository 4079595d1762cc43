mod Prelude
pub mod NoOffence
pub mod OneSort
pub mod ResolvedAlike
pub mod Conjunctions
pub mod Named
pub mod Judging
pub mod Members
pub mod Chains
pub mod Bound
pub mod Halves
pub mod Indexed
pub mod Parts
pub mod Rows
