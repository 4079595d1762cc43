pub mod Laws
pub use Rattle.law_decided.specs.Laws.{EveryItemIsJudged, EverySchemaIsJudged, EverySchemaTextIsJudged, EveryTermIsJudged, EveryTextHasAVerdict, SomeOffence}
