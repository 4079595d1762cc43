mod Prelude
pub mod Reading
pub mod Numbers
pub mod Ascending
pub mod SoFar
pub mod SpelledTypes
pub mod WordsAt
pub mod Misfits
pub mod ValuesAt
pub mod Onward
pub mod HeldSoFar
pub mod OneHeld
pub mod Chosen
