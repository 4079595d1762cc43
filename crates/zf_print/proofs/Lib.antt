mod Prelude
pub mod TextsSeen
pub mod WordRuns
pub mod Spelled
pub mod OneFront
pub mod OneRow
pub mod Printing
