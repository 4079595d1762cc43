-- What the proofs of this crate take from elsewhere, passed on from one place.
pub use Rattle.std.proofs.Common.{◌++◌, ◌+◌, ◌<◌, ◌∙◌, ◌∷◌, ◌≡◌, ◌⊎◌, [], ap, append-nil, arith, Bool, Err, false, get_or, IfErr, IfOk, inl, inr, length, List, map, None, Ok, OnErr, Option, refl, Result, rules, Some, subst, sym, take, true, ℕ}
pub use Rattle.std.proofs.KnownBytes.{Appends-kept, Appends-nil}
pub use Rattle.std.proofs.lemmas.Bool.{false≢true}
pub use Rattle.std.proofs.lemmas.List.{length-map, map-append, take_all, take_more}
pub use Rattle.std.specs.Io.KnownBytes.{Appends, Keeps}
pub use Rattle.std.specs.Option.{option_copied}
pub use Rattle.zf_walk.specs.{Stage, Event, HasLength, IsNumberOfTests}
pub use Rattle.zf_value.specs.declared.plain.Value.{Value}
pub use Rattle.zf_term.specs.{Comp, comp_of, Defined, globals_of, Schema, schema_of, sets_of}
pub use Rattle.zf_checker.specs.{AreWellTyped}
pub use Rattle.zf_meaning.specs.{Environment, environment_of, IsRow, AreComplete, given_sets, IsEnvironment}
pub use Rattle.zf_print.specs.{spellings}
pub use Rattle.zf_print.specs.declared.spelling.Spelling.{Spelling}
pub use Rattle.zf_enum.specs.{counted_goal, Goal, Portion, portion, property, Begins}
pub use Rattle.zf_instances.specs.{planted_goal}
pub use Rattle.zf_command.specs.declared.job.Request.{Request}
pub use Rattle.zf_lines.proofs.Beginning.{at_start, counting_at_start}
pub use Rattle.zf_lines.specs.declared.fault.Status.{Status}
pub use Rattle.zf_answers.specs.{AnswersRequest, AreHeld, AreMessages, AreSmall, Checks, IfAnswered, IsNamedRow, IsRefused, IsSearch, IsUnfit, numbers_of, RequestAnswer, stated, Tells, TellsInfinite, TellsMisfit, TellsNoSchema, TellsNumbers, TellsOut, UnreadAnswer, WritesText, environment_in, schema_in, NamesParts, Gave, IsChosenBy, IsSubjectOf, shown_in}
pub use Rattle.zf_engine.specs.{Answer, AnswersExploration, AnswersReader, AnswersSource, IsStatus, IsStatusOfRefused, IsUnexplored, IsWorkStatus, Reaches, ShowAnswer, ShowBegins, Shows, StopsInReader, StopsInSource, wording, Writes, ending_status, ExplorationAnswer, ExplorationBegins, form_of, IsSchemaOf, IsSearchable, names_of, result_status, states_limit, TellsMachine, TellsShown, AreSchemasOf, HasInfinite, HasLacking, HasOut, HasSchemas, IsBounded, IsSettled, LacksSchema, RefusesExploration}
pub use Rattle.zf_messages.specs.{messages_text}
pub use Rattle.zf_messages.specs.declared.message.Message.{Message}
pub use Rattle.zf_answers.specs.declared.stop.Stop.{Stop}
pub use Rattle.zf_answers.specs.declared.stop.Stop.TheVariants.{Answered, OutOfMemory}
pub use Rattle.std.specs.Prelude.{drop, option_map, OnOk, option_to_list, IsTrue}
pub use Rattle.std.specs.List.{AllByRecursion, AllZip}
pub use Rattle.zf_command.specs.declared.job.Exploration.{Exploration}
pub use Rattle.zf_command.specs.declared.job.Job.TheVariants.{Reach, Check, Show, Why}
pub use Rattle.zf_finite.specs.{IsFinite, one_bounds}
pub use Rattle.zf_lines.specs.{AppendsFront, HasEvents, AreEventsUpTo, FindsEvents, IsBegun, IsSome, IsTestsLine, IsWritten, StopsShown, TellsTests, Wording, WritesAll, row_wording}
pub use Rattle.zf_machines.specs.{all_of, IsMachineOf, Named, Schemas, FirstFails, HasShape, named_of, schemas_of}
pub use Rattle.zf_ranges.specs.{IsNoneOut, RefusesStart}
pub use Rattle.zf_value.specs.{value_order}
pub use Rattle.zf_answers.specs.declared.subject.Subject.{Subject}
pub use Rattle.zf_lines.specs.declared.fault.RunFault.{RunFault}
pub use Rattle.zf_places.specs.{comps_at}
pub use Rattle.zf_parts.specs.{ArePartsWritten, part_wording, StopsParts, WritesParts}
pub use Rattle.zf_engine.specs.Explorations.{IsOfSchema}
pub use Rattle.zf_machines.proofs.Firsts.{all_passed, at_first, failed, mapped_ahead, mapped_end, passed, IsAhead, ahead_at}
