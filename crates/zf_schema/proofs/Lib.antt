mod Prelude
pub mod OneSchema
pub mod NoSchemaOffence
pub mod Named
pub mod Once
pub mod Referring
pub mod Stopping
pub mod Beginning
pub mod Texts
pub mod Numbering
