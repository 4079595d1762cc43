mod Prelude
mod SmallNumbers
mod Mending
pub mod Rows
pub mod OneEnding
pub mod WrittenRows
pub mod OneRefusal
pub mod OneSource
pub mod OneSearch
mod Refusals
mod NamedParts
mod OneParts
pub mod Stages
pub mod FaultMessages
mod Machines
mod Explorations
pub mod OneAnswer
pub mod Shown
pub mod PartsShown
pub mod EverySource
pub mod ListedValues
pub mod HeldLines
mod EveryName
mod SomeExploration
pub mod EveryAnswer
pub mod FirstLines
mod Reached
mod Sought
pub mod EarlyStops
pub mod Joined
pub mod RunsFollow
pub mod NamedLines
mod OneCause
mod SomeOperands
mod SomeCause
mod Reasons
