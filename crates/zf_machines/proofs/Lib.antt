pub mod Prelude
pub mod Firsts
pub mod Lacking
pub mod Sole
