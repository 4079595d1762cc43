mod Prelude
pub mod Agreeing
pub mod Names
pub mod Every
pub mod Instances
pub mod Needs
pub mod WrittenOut
pub mod Arms
pub mod Steps
pub mod Written
pub mod Results
