pub mod Laws
pub use Rattle.law_resumed.specs.Laws.{LinesAreRows}
