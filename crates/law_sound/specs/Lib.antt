pub mod Prelude
pub mod OutcomeLaws
pub mod RowLaws
pub mod CarrierLaws
pub use Rattle.law_sound.specs.OutcomeLaws.{context, IsFrontOfRow, OutcomesTyped, scope}
pub use Rattle.law_sound.specs.RowLaws.{AreHeldTyped, EventsOfTextsTyped, EventsTyped, RowsTyped}
pub use Rattle.law_sound.specs.CarrierLaws.{CarriersAreExact, CarriersAreOutcomes, IsTypeAt, SpellAll, Spells}
