mod Prelude
pub mod Listed
pub mod Orders
pub mod Naturals
pub mod Values
pub mod Rows
pub mod Sets
pub mod Numbers
pub mod Operations
pub mod Truths
pub mod Comprehensions
pub mod Terms
pub mod Tables
pub mod Carriers
pub mod StatedSizes
pub mod Environments
