pub mod Prelude
pub mod Faults
pub mod Parts
pub mod Objects
pub mod Reasons
pub mod CauseLines
pub mod Numbers
pub mod Settings
pub mod Only
pub mod Adding
pub mod Answers
pub mod Stops
pub mod Subjects
pub use Rattle.zf_answers.specs.Faults.{Gave, GaveAtMost}
pub use Rattle.zf_answers.specs.Parts.{at_line, name_in, operand_text, outcome_text, part_place, part_text, range_details}
pub use Rattle.zf_answers.specs.Objects.{operand_object, operands_members, outcome_object, part_object, side_object, sides_member, told_members, told_object}
pub use Rattle.zf_answers.specs.Reasons.{at_component, empty_line, empty_lines, no_binding_line, operands_lines, part_line, satisfied_line, side_line, side_lines, TellsConjuncts, TellsWhy, told_line, told_lines}
pub use Rattle.zf_answers.specs.CauseLines.{cause_lines, cause_text, reasons}
pub use Rattle.zf_answers.specs.Numbers.{AreSmall, AreTooLarge}
pub use Rattle.zf_answers.specs.Settings.{AreMessages, Checks, HasSchema, is_mended, IsMisfit, IsNamed, numbers_of, size_fault_messages, stated, stated_size, TellsComponent, TellsFaults, TellsInfinite, TellsMisfit, TellsNoSchema, TellsNumbers, TellsOut, with_size, without_size}
pub use Rattle.zf_answers.specs.Only.{AreShown, component_place, is_comma, names_between, NamesNoParts, NamesParts, trimmed, without_end, without_start}
pub use Rattle.zf_answers.specs.Adding.{HasNoPlace, IsAdded}
pub use Rattle.zf_answers.specs.Answers.{AreHeld, check_status, CheckAnswer, HoldsNoValues, IsAsked, IsCheckText, IsLineOf, IsNamedRow, IsSearch, listed, NamesNoRow, RefusesRequest, RequestAnswer, row_after, UnreadAnswer, WhyAnswer}
pub use Rattle.zf_answers.specs.Stops.{AnswersOver, AnswersRequest, IfAnswered, IsTextFault, IsMisnamed, IsRefused, IsUnfit, Tells, TellsBounds, TellsMisnamed, TellsNoParts, TellsNoRow, TellsNoValues, TellsPlace, TellsPlaceHeld, TellsPlaceMisnamed, WritesText}
pub use Rattle.zf_answers.specs.Subjects.{AreNamedIn, CanBeSearched, environment_in, HasNone, IsBegunOf, IsChosenBy, IsSubjectOf, line_in, out_line_in, schema_in, shown_in, TellsFirst, TellsNone, TellsOf}
