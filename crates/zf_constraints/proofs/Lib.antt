mod Prelude
pub mod Memberships
