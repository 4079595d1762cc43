-- What the proofs of this crate take from elsewhere, passed on from one place.
pub use Rattle.std.proofs.Common.{if◌then◌else◌, ◌%◌, ◌++◌, ◌+◌, ◌-◌, ◌<◌, ◌∙◌, ◌∷◌, ◌≡◌, ◌≤◌, ◌⊎◌, [], ap, append-nil, append_assoc, arith, Bool, codes, drop, Err, false, get_or, inl, inr, length, length-append, List, map, None, Ok, OnErr, OnOk, Option, refl, Result, rules, Some, subst, suc, sym, take, take-append-drop, true, zero, ℕ}
pub use Rattle.std.proofs.KnownBytes.{Appends-nil, Appends-trans}
pub use Rattle.std.proofs.Math.ListN.{set}
pub use Rattle.std.proofs.lemmas.Bool.{false≢true}
pub use Rattle.std.proofs.lemmas.List.{length-map, length-set, length-take-le, map_more, take_all, take_rest}
pub use Rattle.std.proofs.lemmas.Option.{slice_get_read}
pub use Rattle.std.specs.Cmp.{IsTotalOrder}
pub use Rattle.std.specs.Cmp.Lexicographic.{lists_total, slice_cmp}
pub use Rattle.std.specs.Io.KnownBytes.{Appends}
pub use Rattle.std.specs.Ordering.{ordering_reverse, ordering_then}
pub use Rattle.std.specs.Prelude.{AllPairs, Contains, option_map, slice_get, slice_index_or, unwrap_or}
pub use Rattle.std.specs.declared.cmp.Ordering.{Ordering}
pub use Rattle.std.specs.declared.cmp.Ordering.TheVariants.{Equal, Greater, Less}
pub use Rattle.zf_walk.proofs.Lists.{AllPairs-across, AllPairs-cons, AllPairs-head, AllPairs-nil, AllPairs-tail, Contains-cases, Contains-either, Contains-head, Contains-later, Contains-left, Contains-nil, Contains-right}
pub use Rattle.zf_walk.specs.Conjuncts.{Conjuncts}
pub use Rattle.zf_walk.specs.{Advances, Ahead, AreAllAhead, ComesAfter, Event, IsAhead, IsEvent, IsNoneAhead, IsRowOf, past, SameRanges, Stage, Takes, first_of, reaches, IsNumberOfTests}
pub use Rattle.zf_walk.specs.Progress.{Progress}
pub use Rattle.zf_walk.specs.declared.judge.Truth.TheVariants.{Out, True}
pub use Rattle.zf_walk.specs.declared.step.Step.TheVariants.{Breaks, End, Holds}
pub use Rattle.zf_value.specs.{value_order}
pub use Rattle.zf_value.specs.declared.plain.Value.{Value}
pub use Rattle.zf_term.specs.{Comp, comp_of, Schema, schema_of, ResolvedTree}
pub use Rattle.zf_meaning.specs.{Environment}
pub use Rattle.zf_print.specs.{comma_before, component_in, components_in, later_parts, name_in, parted, value_in}
pub use Rattle.zf_print.specs.declared.spelling.Spelling.{Spelling}
pub use Rattle.zf_enum.specs.{conjuncts_of, counted_goal, Goal, judged, property, Begins, BeginsCounting, Portion}
pub use Rattle.zf_enum.specs.declared.bindings.Bindings.{Bindings}
pub use Rattle.zf_lines.specs.{AppendsFront, AreColumns, AreEventsUpTo, AreParts, device_of, ending_status, EndsBy, failures_of, FindsEvents, front, HasLimit, head_of, Hold, IsAtStart, IsBegun, IsBelow, IsCountingAtStart, IsEnd, IsNotAbove, IsPrinted, IsWritten, Keeps, last_text, lines, opening, part_at, row_line, row_wording, StopsLines, TellsTests, tests_line, Wording, WritesAll, out_line}
unfoldable pub use Rattle.zf_lines.specs.{AreTexts}
pub use Rattle.zf_lines.specs.LastLine.{IsFront}
pub use Rattle.zf_format.specs.declared.format.Format.{Format}
pub use Rattle.zf_term.specs.declared.schema.Component.{Component}
pub use Rattle.zf_lines.specs.declared.column.Column.{Column}
pub use Rattle.zf_lines.specs.declared.printed.Part.{Part}
