pub mod Prelude
pub mod Reads
pub mod Parsing
pub mod ParsingViews
pub mod BoxByBox
pub use Rattle.zf_parse.specs.Parsing.{IsGrammarFault, ReadsLow, ReadsSource, RefusesSource, RefusesTokens}
pub use Rattle.zf_parse.specs.ParsingViews.{Parses, ReadsSpec}
pub use Rattle.zf_parse.specs.BoxByBox.{AreSoFar, Later, ReadsBox, ReadsOneBox, ReadsUpTo, RefusesBox}
