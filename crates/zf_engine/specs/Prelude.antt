-- What the definitions of this crate and its contracts take from elsewhere, passed on from one place.
pub use Rattle.zf_term.specs.{Defined, Schema, schema_of, globals_of}
pub use Rattle.std.specs.Io.KnownBytes.{Appends, Keeps}
pub use Rattle.zf_command.specs.declared.job.Job.{Job}
pub use Rattle.zf_command.specs.declared.job.Job.TheVariants.{Check, Reach, Show, Why}
pub use Rattle.zf_command.specs.declared.job.Request.{Request}
pub use Rattle.zf_command.specs.{IsBare, IsAsked, IsRefused}
pub use Rattle.zf_format.specs.declared.format.Format.{Format}
pub use Rattle.zf_finite.specs.{IsFinite}
pub use Rattle.zf_value.specs.declared.plain.Value.{Value}
pub use Rattle.zf_walk.specs.{Event}
pub use Rattle.zf_meaning.specs.{AreComplete, Environment, given_sets, IsEnvironment, environment_of}
pub use Rattle.zf_enum.specs.{Portion}
pub use Rattle.zf_ranges.specs.{IsNoneOut}
pub use Rattle.zf_print.specs.{spellings}
pub use Rattle.zf_lines.specs.declared.fault.Status.{Status}
pub use Rattle.zf_lines.specs.declared.fault.Status.TheVariants.{Done, BadRequest, PastBounds}
pub use Rattle.zf_places.specs.{comps_at}
pub use Rattle.zf_lines.specs.{HasEvents, HasLimit, IsBegun, IsTestsLine, IsWritten, row_wording, Wording, number, device_of, failures_of, read_failures, write_failures}
pub use Rattle.zf_messages.specs.declared.message.Message.{Message}
pub use Rattle.std.specs.List.{AllByRecursion, AllZip}
pub use Rattle.zf_command.specs.declared.job.Exploration.{Exploration}
pub use Rattle.zf_format.specs.declared.format.Format.TheVariants.{Lines, Objects}
pub use Rattle.zf_machines.specs.{all_of, FirstFails, HasShape, IsMachineOf, LacksFirst, Named, Schemas, named_of, schemas_of}
pub use Rattle.zf_scan.specs.declared.scan.TheConstants.{SOURCE_MAX}
pub use Rattle.std.specs.Option.{option_copied}
