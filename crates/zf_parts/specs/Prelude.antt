-- What the definitions of this crate and its contracts take from elsewhere, passed on from one place.
pub use Rattle.std.specs.Io.KnownBytes.{Appends}
pub use Rattle.zf_term.specs.{Schema, Comp, schema_of}
pub use Rattle.zf_value.specs.declared.plain.Value.{Value}
pub use Rattle.zf_walk.specs.declared.judge.Truth.TheVariants.{True, Out, False}
pub use Rattle.zf_walk.specs.{Event, Stage, ComesAfter, IsLater, Ahead, AreAscending, ended, IsAhead, IsEvent, Takes, SameRanges, AreWithin, picked}
pub use Rattle.zf_meaning.specs.{Environment}
pub use Rattle.zf_lines.specs.declared.fault.Status.{Status}
pub use Rattle.zf_lines.specs.{AppendsFront, Wording, end_line, out_line, HasEvents, FindsEvents, IsBelow, row_wording, IsAtStart, device_of, failures_of, HasLimit, read_failures, write_failures, more_line, row_line}
pub use Rattle.zf_value.specs.{value_order}
pub use Rattle.zf_places.specs.{values_at, AreFirst}
pub use Rattle.zf_format.specs.declared.format.Format.{Format}
pub use Rattle.zf_lines.specs.declared.fault.Status.TheVariants.{Done, PastBounds}
pub use Rattle.zf_print.specs.declared.spelling.Spelling.{Spelling}
pub use Rattle.zf_enum.specs.{property, Portion}
pub use Rattle.std.specs.Option.{option_copied}
