-- What the definitions of this crate and its contracts take from elsewhere, passed on from one place.
pub use Rattle.zf_term.specs.{Comp, Defined, Fault, Schema, sets_of, first_named, ResolvedTree, schema, schema_of, globals_of, comp_of}
pub use Rattle.std.specs.Io.KnownBytes.{Appends, Consumes, IsAtEnd}
pub use Rattle.zf_command.specs.declared.job.Request.{Request}
pub use Rattle.zf_command.specs.{IsBare}
pub use Rattle.zf_format.specs.declared.format.Format.{Format}
pub use Rattle.zf_finite.specs.declared.not_finite.NotFinite.{NotFinite}
pub use Rattle.zf_finite.specs.{causes, IsFinite, first_plain}
pub use Rattle.zf_scan.specs.declared.fault.TextFault.{TextFault}
pub use Rattle.zf_parse.specs.{RefusesSource, ReadsSource}
pub use Rattle.zf_extent.specs.{first}
pub use Rattle.zf_value.specs.declared.plain.Value.{Value}
pub use Rattle.zf_walk.specs.{Event, AreDueWithin, Stage, HasLength}
pub use Rattle.zf_meaning.specs.declared.sizes.SizeFault.{SizeFault}
pub use Rattle.zf_meaning.specs.declared.sizes.SizeFault.TheVariants.{OutOfMemory, NoSize, NotGiven, SizeTwice, SizeTooLarge}
pub use Rattle.zf_meaning.specs.{AreComplete, Environment, given_sets, IsEnvironment, IsRefusal, IsRow, environment_of}
pub use Rattle.zf_enum.specs.{Portion, Begins, Goal, portion, property, BeginsCounting}
pub use Rattle.zf_instances.specs.{planted_goal}
pub use Rattle.zf_ranges.specs.{IsFirstOut, IsNoneOut, RefusesStart}
pub use Rattle.zf_print.specs.{binding_text, spellings, parted, value_object, value_text, AreClear, comma_before}
pub use Rattle.zf_read.specs.{IsHeldLine, HaveClearNames}
pub use Rattle.zf_lines.specs.declared.fault.Status.{Status}
pub use Rattle.zf_lines.specs.declared.fault.Status.TheVariants.{Done, BadSpec, BadRequest, PastBounds}
pub use Rattle.zf_places.specs.{comps_at}
pub use Rattle.zf_lines.specs.{HasEvents, out_line, row_line, AppendsFront, device_of, failures_of, read_failures, write_failures}
pub use Rattle.zf_messages.specs.{AreFaultMessages, Cited, cited_of, declared_out, detail_line, detail_member, IsReportedBeside, line_at, line_range, member, messages_text, no_schema_message, no_size_message, not_a_binding, not_components, not_finite_message, not_given, not_held, numbers_too_large, place_members, place_text, quoted, size_too_large, size_twice, text_fault_message}
pub use Rattle.zf_messages.specs.declared.message.At.{At}
pub use Rattle.zf_messages.specs.declared.message.At.TheVariants.{Line}
pub use Rattle.zf_messages.specs.declared.message.Detail.{Detail}
pub use Rattle.zf_messages.specs.declared.message.Message.{Message}
pub use Rattle.zf_tree.specs.declared.span.Span.{Span}
pub use Rattle.zf_print.specs.declared.spelling.Spelling.{Spelling}
pub use Rattle.zf_cores.specs.{chosen_of}
pub use Rattle.zf_why.specs.declared.cause.Cause.{Cause}
pub use Rattle.zf_why.specs.declared.cause.Cause.TheVariants.{Empty, Alone, Together}
pub use Rattle.std.specs.List.{slice_split, flat_map, filter, list_any, prefix_len, suffix_len}
pub use Rattle.zf_format.specs.declared.format.Format.TheVariants.{Lines, Objects}
pub use Rattle.zf_scan.specs.declared.scan.TheConstants.{SOURCE_MAX}
pub use Rattle.zf_value.specs.declared.value.Outcome.{Outcome}
pub use Rattle.zf_why.specs.declared.told.Operands.{Operands}
pub use Rattle.zf_why.specs.declared.part.Part.{Part}
pub use Rattle.zf_why.specs.declared.part.Part.TheVariants.{Member, Text, Unchanged}
pub use Rattle.zf_why.specs.declared.told.Operand.{Operand}
pub use Rattle.zf_why.specs.declared.told.Operand.TheVariants.{Comes, Stands}
pub use Rattle.zf_why.specs.declared.told.Side.{Side}
pub use Rattle.zf_why.specs.declared.told.Told.{Told}
pub use Rattle.zf_why.specs.{AreTold, EmptiedBy, nothing_beside, others_beside, RefutedBy, RefutedTogetherBy, Split, split_at, Explains, RuleOut}
pub use Rattle.std.specs.Str.{bytes_eq}
pub use Rattle.zf_tree.specs.{BoxTree}
pub use Rattle.std.specs.declared.alloc.Global.{Global}
pub use Rattle.std.specs.Option.{option_copied}
