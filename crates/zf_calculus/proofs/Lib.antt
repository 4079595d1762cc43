mod Prelude
pub mod Counting
pub mod Merging
pub mod Placing
pub mod Monotony
pub mod Beside
pub mod Renumbering
pub mod Apart
pub mod Taken
pub mod Stopping
pub mod Equalities
pub mod Decorating
pub mod Changing
pub mod Disjoining
