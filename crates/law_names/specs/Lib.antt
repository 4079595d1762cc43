pub mod Laws
pub use Rattle.law_names.specs.Laws.{ComponentsAreClear, GlobalsAreClear}
