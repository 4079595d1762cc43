mod Prelude
pub mod Reported
pub mod Refusing
pub mod Mending
pub mod Lists
pub mod Within
pub mod OwnComponents
pub mod DueWithin
pub mod Subjects
pub mod NamedParts
pub mod FirstEvents
pub mod WhyAnswers
pub mod ChosenLines
pub mod ToldLines
