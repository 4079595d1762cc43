pub mod Prelude
pub mod FirstOffenders
pub mod JoinedOffences
pub mod SameOffences
