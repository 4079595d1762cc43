mod Prelude
pub mod OfTypes
pub mod Injected
pub mod Relations
pub mod Operations
pub mod Names
pub mod Terms
pub mod Globals
pub mod Carriers
pub mod Directs
pub mod DeclaredSets
pub mod Components
pub mod Schemas
pub mod Rows
pub mod ExactCarriers
