pub mod TermSeen
pub mod SchemaSeen
