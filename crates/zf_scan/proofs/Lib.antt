mod Prelude
pub mod Runs
pub mod Numbers
pub mod Texts
pub mod Table
pub mod Longest
pub mod Closing
pub mod First
pub mod Same
pub mod Spelled
pub mod LaidOut
pub mod Scanned
mod ScanTurns
pub mod FirstLetters
pub mod Laws
mod Everywhere
mod Fronts
mod MarkedCommands
mod BoxParts
