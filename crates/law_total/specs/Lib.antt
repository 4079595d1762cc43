pub mod Laws
pub use Rattle.law_total.specs.Laws.{ConnectivesByTable, EveryCarrier, EveryEnvironment, EveryOutcome, EveryTruth, SizesAreJudged}
