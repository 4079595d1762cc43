mod Prelude
pub mod OneDefinition
pub mod OneCheck
pub mod Decoration
pub mod FirstComponents
pub mod Joined
pub mod Lines
pub mod NewComponents
pub mod Fronts
pub mod Unchanged
pub mod Globals
pub mod WellTyped
pub mod Extended
pub mod Running
