pub mod Prelude
pub mod Bindings
pub mod Parts
pub mod Laws
pub mod Reached
pub mod Sought
pub mod Runs
pub mod NamedLines
pub mod Limits
pub mod Mending
pub use Rattle.law_answered.specs.Bindings.{EndsLines, IsBefore, IsBinding, IsInDoubt, IsNotPast, ShowsBindings}
pub use Rattle.law_answered.specs.Parts.{IsFirstInDoubt, IsPartOfBinding, ShowsEachPart}
pub use Rattle.law_answered.specs.Laws.{AnswersRequest, AreAlike, AreFaultsAlike, AreMessagesAlike, AreOfSame, EachBindingIsShown, EachPartIsShown, EventsAreShown, EveryHeldLineIsJudged, EveryLineIsJudged, EveryRequestIsAnswered, EverySourceIsRead, IsGranted, IsShownInOneWay, OneStatus, OneText, plain_message, PlainMessages, ReasonIsTold}
pub use Rattle.law_answered.specs.Reached.{graph_in, ReachableAreMet, SchemasMakeOneMachine, WhatIsReachedIsTold}
pub use Rattle.law_answered.specs.Sought.{SatisfiesAt, Says, ShowsWay, WhatIsSoughtIsTold}
pub use Rattle.law_answered.specs.Runs.{FirstLinesAreAFront, limited, PartsAreFronts, resumed, RunsMakeOne, together}
pub use Rattle.law_answered.specs.NamedLines.{IsSchemaAt, OneRowOfALine, OneRowOfAnObject, RefusedLinesAreOfNoRow}
pub use Rattle.law_answered.specs.Limits.{LimitsAre}
pub use Rattle.law_answered.specs.Mending.{NumbersMend}
