mod Prelude
mod FirstOf
pub mod Nodes
pub mod Heights
pub mod SetsCounted
pub mod Joined
pub mod Conjuncts
pub mod Greatest
