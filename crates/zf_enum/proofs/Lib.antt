mod Prelude
pub mod Dues
pub mod Judging
pub mod EventLaws
pub mod ConjunctTerms
pub mod Started
pub mod Fixed
pub mod Keying
pub mod Trying
pub mod Placed
pub mod Spreading
pub mod Equations
pub mod Standing
pub mod Spanning
pub mod Balanced
pub mod Placing
