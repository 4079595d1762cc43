pub mod Prelude
pub mod Held
pub mod HeldLines
pub mod HeldLaws
pub mod Laws
pub mod Readings
pub mod Steps
pub use Rattle.zf_read.specs.Held.{HoldNext, IsHeldLine, IsPart, nothing_of}
pub use Rattle.zf_read.specs.HeldLines.{AreChosen, IsElsewhere, IsLineOfSome, with_values}
unfoldable pub use Rattle.zf_read.specs.HeldLaws.{IsNoHeldLine}
pub use Rattle.zf_read.specs.HeldLaws.{HaveClearNames}
pub use Rattle.zf_read.specs.Laws.{HeldIsLine, LineIsHeld, OneHeldLine}
unfoldable pub use Rattle.zf_read.specs.Readings.{IsNoLine}
pub use Rattle.zf_read.specs.Readings.{IfMisfit, IsLineOf, TellsAsMuch}
unfoldable pub use Rattle.zf_read.specs.Steps.{AreNoMembers, AreNoParts, BeginsWithoutName, GoesOn, HasNoElements, IsNoComponent, IsNoHeldRest, IsNoItem, IsNoNext, IsNoRest, IsNoSpelledType, IsNoValue, NamesNone, SpellsNone}
pub use Rattle.zf_read.specs.Steps.{AreMembers, AreMembersAt, ArePartsAt, BeginsWithName, IsComponentAt, IsItem, IsNamed, IsNext, IsPartAt, IsSpelledType, IsValueAt, IsWordAt}
