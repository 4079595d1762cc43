pub mod Laws
pub use Rattle.law_exists.specs.Laws.{EveryBound, EveryEvent, EveryNumberOfTests, EveryRange, EveryResult, EverySearch, EverySight, EveryTurn, OtherHasNone, OutIsDecided, SoughtSatisfies}
