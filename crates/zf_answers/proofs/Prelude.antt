-- What the proofs of this crate take from elsewhere, passed on from one place.
pub use Rattle.std.proofs.Common.{if◌then◌else◌, ◌++◌, ◌+◌, ◌-◌, ◌<◌, ◌==◌, ◌∙◌, ◌∷◌, ◌≡◌, ◌≢◌, ◌≤◌, ◌⊎◌, [], ap, arith, Bool, Err, false, get_or, IfErr, IfOk, inl, inr, length, length-append, List, map, None, Ok, Option, refl, Result, rules, Some, subst, suc, sym, take, true, vec_len, zero, ℕ, append_assoc}
pub use Rattle.std.proofs.KnownBytes.{Consumes-trans}
pub use Rattle.std.proofs.lemmas.Bool.{eqb-true, false≢true, eq-eqb}
pub use Rattle.std.proofs.lemmas.List.{length-map, length-take, get_or_append_left, get_or_default, map-append, take_all, take_more}
pub use Rattle.std.proofs.lemmas.Option.{none-some, same_Some}
pub use Rattle.std.specs.Io.KnownBytes.{Consumes}
pub use Rattle.std.specs.Option.{option_or}
pub use Rattle.std.specs.Str.{bytes_eq}
pub use Rattle.zf_walk.specs.{AreDueWithin, Stage, Advances, Event, IsNoneAhead, Takes}
pub use Rattle.zf_reference.specs.declared.reference.Reference.TheVariants.{Component, Global, Local}
pub use Rattle.zf_value.specs.declared.plain.Value.{Value}
pub use Rattle.zf_tree.specs.{both, DeclTree, either, include, Links, no_decls, no_trees, Perhaps, schema_bracket, schema_text, SchemaTree, spelling, Tree, tree, var_decl, VarDecls, vars}
pub use Rattle.zf_tree.specs.Trees.{Trees}
pub use Rattle.zf_term.proofs.Behind.{onto_behind}
pub use Rattle.zf_term.specs.{binary, bracket, comprehension, carrier, chain, Comp, comp_of, conjuncts, constant, DeclaredSet, Defined, empty_set, first_named, globals_of, is_and, is_conjunction, listed, moved, plain, quantified, references, ResolvedTree, Schema, schema, schema_of, sides, term_span, unary, Ty, Fault, all_onto, links_onto, onto, part_onto, ranges_onto}
pub use Rattle.zf_sorts.specs.{fault_of}
pub use Rattle.zf_typing.specs.{bound, referent, resolved, resolved_all, resolved_links, resolved_part, resolved_ranges, component_meaning, global_meaning, last_named, meaning, Scope, Var, variable_meaning}
pub use Rattle.zf_checker.specs.{AreWellTyped}
pub use Rattle.zf_meaning.specs.{Environment, environment_of, AreComplete, given_sets, IsEnvironment}
pub use Rattle.zf_print.specs.{spellings, AreClear, binding_text, goes_on}
pub use Rattle.zf_print.specs.declared.spelling.Spelling.{Spelling}
pub use Rattle.zf_enum.specs.{due, due_of, Goal, greatest_place, place_named, portion, property, Begins, conjuncts_of}
pub use Rattle.zf_command.specs.declared.job.Request.{Request}
pub use Rattle.zf_lines.specs.declared.fault.Status.{Status}
pub use Rattle.zf_answers.specs.{AnswersOver, AnswersRequest, AreHeld, AreSmall, Checks, HasSchema, IfAnswered, IsAsked, IsTextFault, IsNamed, IsNamedRow, IsRefused, IsSearch, IsUnfit, numbers_of, RefusesRequest, RequestAnswer, stated, stated_size, TellsBounds, TellsInfinite, TellsMisfit, TellsMisnamed, TellsNoParts, TellsNoRow, TellsNoSchema, TellsNoValues, TellsNumbers, TellsOut, TellsPlace, TellsPlaceHeld, UnreadAnswer, without_size, CanBeSearched, environment_in, HasNone, IsBegunOf, line_in, out_line_in, satisfied_line, schema_in, TellsFirst, TellsWhy, component_place, HasNoPlace, is_comma, IsAdded, NamesParts, trimmed, AreShown, row_after, IsChosenBy, IsSubjectOf, shown_in, operands_lines, side_lines, part_line, no_binding_line, TellsNone, TellsOf, told_lines, without_end, part_object, side_object, IsMisnamed, empty_line, with_size, WhyAnswer}
pub use Rattle.zf_messages.specs.{AreFaultMessages, Cited, cited_of, declared_out, no_schema_message, type_fault_message, Aside, Reported, IsKnown}
pub use Rattle.zf_messages.specs.declared.message.Message.{Message}
pub use Rattle.zf_answers.specs.declared.stop.Stop.{Stop}
pub use Rattle.zf_answers.specs.declared.stop.Stop.TheVariants.{Answered, OutOfMemory}
pub use Rattle.std.specs.Prelude.{drop, slice_get, unwrap_or, not, option_map, AllPairs, Contains, OnOk, codes}
pub use Rattle.std.specs.List.{flat_map, AllByRecursion, list_any, slice_split}
pub use Rattle.std.proofs.lemmas.List.Folds.{list_any_at}
pub use Rattle.zf_why.proofs.Lists.{stays_out_at, read_at}
pub use Rattle.zf_finite.specs.{IsFinite}
pub use Rattle.zf_lines.specs.{HasEvents, out_line, row_line, device_of, failures_of}
pub use Rattle.zf_ranges.specs.{IsNoneOut}
pub use Rattle.zf_value.specs.{value_order}
pub use Rattle.zf_lines.specs.declared.fault.Status.TheVariants.{Done, PastBounds}
pub use Rattle.zf_answers.specs.declared.subject.Subject.{Subject}
pub use Rattle.zf_places.specs.{comps_at}
pub use Rattle.zf_read.specs.{HaveClearNames}
pub use Rattle.std.proofs.lemmas.Str.Ascii.{trim_ascii_end_is, trim_ascii_start_is}
pub use Rattle.zf_answers.specs.{cause_lines, empty_lines, side_line}
