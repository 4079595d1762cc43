pub mod Prelude
pub mod Parts
pub mod Written
pub mod Shown
pub mod Laws
pub mod Collected
pub mod Numbers
pub mod PartRows
pub use Rattle.zf_parts.specs.Parts.{AreParts, HasParts, IsFirstWith, Part}
pub use Rattle.zf_parts.specs.Written.{AllHold, ArePartsWritten, breaks, ends, part_lines, part_wording, pauses}
pub use Rattle.zf_parts.specs.Shown.{FindsParts, StopsParts, WritesParts}
pub use Rattle.zf_parts.specs.Laws.{Ascend, HasEachPart, OneListOfParts, OneTextOfParts, SomeListOfParts, SomeTextOfParts}
pub use Rattle.zf_parts.specs.Collected.{AreCollected, AreKeptAs, IsKeptAs, KeepParts, StopsKept, WritesKept}
pub use Rattle.zf_parts.specs.Numbers.{AreAllMarked, AreFree, AreMarked, AreWeights, bit_of, counted, counted_page, end_status, end_text, has_in, is_marked, IsEndOf, IsFirstOf, IsKept, IsNumber, IsPlaced, IsSight, Meets, page_has, page_word, ranges_at, reached, total, weights, word_at, word_in}
