pub mod Listing
pub mod WellTypedGlobals
pub mod Runs
pub use Rattle.zf_checker.specs.Listing.{choices_text, component_line, definition_text, listing}
pub use Rattle.zf_checker.specs.WellTypedGlobals.{AreWellTyped, ExtentsKept, GlobalsWellTyped, IsMadeAfter}
unfoldable pub use Rattle.zf_checker.specs.Runs.{RunsOne}
pub use Rattle.zf_checker.specs.Runs.{Notes}
