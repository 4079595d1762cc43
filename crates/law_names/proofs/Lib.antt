mod Prelude
pub mod Bytes
pub mod Pieces
pub mod Tokens
pub mod Fronts
pub mod Spelled
pub mod Apart
pub mod Components
pub mod Named
pub mod Clear
