mod Prelude
mod Lasts
pub mod Cursored
pub mod Turns
pub mod Marks
pub mod Parted
pub mod Forms
pub mod NamesRead
pub mod TermSteps
pub mod TermTables
pub mod TermParts
pub mod TermBegins
pub mod TermSound
pub mod TermMonotone
pub mod TermFirsts
pub mod TermPartsRead
pub mod TermBeginsRead
pub mod TermComplete
pub mod TermAnswers
pub mod TermsApart
pub mod BoxItems
pub mod BoxDecls
pub mod SchemaExps
pub mod ParagraphsRead
pub mod BoxesRead
