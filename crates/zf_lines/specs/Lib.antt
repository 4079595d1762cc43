pub mod Prelude
pub mod Counts
pub mod CountViews
pub mod Faults
pub mod FaultViews
pub mod Texts
pub mod Columns
pub mod Searches
pub mod Shown
pub mod Ends
pub mod LastLine
pub use Rattle.zf_lines.specs.Counts.{device_of, failures_of}
pub use Rattle.zf_lines.specs.CountViews.{count_after, is_failed_write}
pub use Rattle.zf_lines.specs.Faults.{read_failures, write_failures}
pub use Rattle.zf_lines.specs.FaultViews.{AppendsFront, number}
pub use Rattle.zf_lines.specs.Texts.{end_line, more_line, out_line, row_line, tests_line}
unfoldable pub use Rattle.zf_lines.specs.Columns.{AreTexts}
pub use Rattle.zf_lines.specs.Columns.{AreColumns, head_of, Keeps, part_at}
pub use Rattle.zf_lines.specs.Searches.{AreEventsUpTo, breaks, ends, HasEvents, HasLimit, Hold, IsBegun, IsBelow, IsNotAbove, IsTestsLine, IsWritten, lines, pauses, row_wording, Wording}
pub use Rattle.zf_lines.specs.Shown.{FindsEvents, IsAtStart, IsCountingAtStart, IsSome, StopsLines, StopsShown, TellsTests, WritesAll}
pub use Rattle.zf_lines.specs.Ends.{ending_status, EndsBy, IsEnd, last_text}
pub use Rattle.zf_lines.specs.LastLine.{AreParts, front, IsPrinted, opening}
