pub mod Messages
pub mod Places
pub mod Texts
pub mod Details
pub mod Missing
pub mod Named
pub mod AsideViews
pub use Rattle.zf_messages.specs.Messages.{detail, detail_if_any, detail_line, detail_member, member, message, message_lines, message_object, messages_text, place_members, place_text, plain}
pub use Rattle.zf_messages.specs.Places.{IsKnown, line_at, newlines, quoted, slice, squeezed}
pub use Rattle.zf_messages.specs.Texts.{about_words, declared_out, no_component, not_a_binding, not_components, not_given, not_held, numbers_too_large, size_too_large, size_twice}
pub use Rattle.zf_messages.specs.Details.{AreFaultMessages, Aside, Cited, IsReportedBeside, IsWithout, LacksComponent, line_range, not_finite_message, nothing, Reported, text_fault_message, type_fault_message}
pub use Rattle.zf_messages.specs.Missing.{and_name, first_like, no_schema_message, no_size_message, schemas}
pub use Rattle.zf_messages.specs.Named.{name_of, schema_at}
pub use Rattle.zf_messages.specs.AsideViews.{aside_of, cited_of, other_of, remark_of}
