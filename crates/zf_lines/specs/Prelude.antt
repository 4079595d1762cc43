-- What the definitions of this crate and its contracts take from elsewhere, passed on from one place.
pub use Rattle.zf_format.specs.declared.format.Format.{Format}
pub use Rattle.zf_term.specs.{Comp, Schema, resolved_of, schema_of}
pub use Rattle.zf_value.specs.declared.plain.Value.{Value}
pub use Rattle.zf_print.specs.declared.spelling.Spelling.{Spelling}
pub use Rattle.zf_print.specs.{comma_before, name_in, value_in, components_in, parted, row_text}
pub use Rattle.std.specs.Io.KnownBytes.{Appends, Keeps, ReadConsumes, WriteAppends}
pub use Rattle.zf_walk.specs.declared.judge.Truth.TheVariants.{Out, True}
pub use Rattle.zf_walk.specs.{Event, Stage, ComesAfter, cut, IsEvent, IsUpTo, AreAllAhead, IsNumberOfTests, SameRanges}
pub use Rattle.zf_meaning.specs.{Environment}
pub use Rattle.zf_format.specs.declared.format.Format.TheVariants.{Lines, Objects}
pub use Rattle.zf_value.specs.{value_order}
pub use Rattle.zf_enum.specs.{AreTests, Portion, property, conjuncts_of, counted_goal, Goal}
