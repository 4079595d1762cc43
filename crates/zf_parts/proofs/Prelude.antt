-- What the proofs of this crate take from elsewhere, passed on from one place.
pub use Rattle.std.proofs.Common.{◌++◌, ◌+◌, ◌<◌, ◌∙◌, ◌∷◌, ◌≡◌, ◌⊎◌, [], ap, append-nil, append_assoc, arith, Bool, cond, false, inl, inr, length, List, None, Option, refl, rules, Some, subst, suc, sym, true, zero, ℕ, Err, IfOk, Ok, OnErr, Result, ◌*◌, ◌-◌, ◌≤◌, add-mul, drop, get_or, mul_assoc, replicate, take, ◌/◌, ◌%◌, ◌^◌, eqb, slice_get, w64, OnOk, ⊎_elim}
pub use Rattle.std.specs.Cmp.Lexicographic.{lists_total, slice_cmp}
pub use Rattle.std.specs.Ordering.{match_ordering, ordering_reverse, ordering_then, is_eq}
pub use Rattle.std.specs.Prelude.{All, AllPairs, Contains, option_map, codes, is_some, bit_or, unwrap_or, IfSome, slice_index_or}
pub use Rattle.std.specs.declared.cmp.Ordering.{Ordering}
pub use Rattle.std.specs.declared.cmp.Ordering.TheVariants.{Equal, Greater, Less}
pub use Rattle.zf_walk.proofs.Lists.{AllPairs-across, AllPairs-cons, AllPairs-head, AllPairs-nil, AllPairs-tail, AllPairs-unique, Contains-cases, Contains-either, Contains-head, Contains-later, Contains-left, Contains-nil, Contains-right}
pub use Rattle.zf_walk.specs.{ComesAfter, Event, IsLater, Stage, AreWithin, picked, Ahead, first_of, past, reaches, Takes, Advances, IsAhead, IsEvent, SameRanges, AreAscending, IsRowOf, IsEvents, ended}
pub use Rattle.zf_walk.specs.declared.judge.Truth.{Truth}
pub use Rattle.zf_walk.specs.declared.judge.Truth.TheVariants.{False, Out, True}
pub use Rattle.zf_value.specs.{value_order}
pub use Rattle.zf_value.specs.declared.plain.Value.{Value}
pub use Rattle.zf_parts.specs.{AreParts, IsFirstWith, Part, AreCollected, StopsKept, StopsParts, WritesKept, WritesParts, counted, IsNumber, ranges_at, total, Ascend, FindsParts, HasEachPart, OneListOfParts, SomeListOfParts, AreKeptAs, IsKeptAs, KeepParts, bit_of, counted_page, has_in, IsKept, IsPlaced, IsSight, page_has, page_word, reached, word_in, weights, AreAllMarked, AreMarked, is_marked, IsFirstOf, Meets, ArePartsWritten, AllHold, breaks, ends, OneTextOfParts, part_lines, pauses, SomeTextOfParts, AreFree, end_status, end_text, IsEndOf, part_wording, AreWeights, word_at}
pub use Rattle.zf_places.specs.{values_at, AreFirst}
pub use Rattle.std.specs.Io.KnownBytes.{Appends}
pub use Rattle.zf_lines.specs.declared.fault.Status.{Status}
pub use Rattle.zf_lines.specs.{Wording, row_line, AppendsFront, HasLimit, IsAtStart, IsBelow, IsPrinted, device_of, failures_of}
pub use Rattle.zf_meaning.specs.{Environment, in_row, IsTruth}
pub use Rattle.zf_term.specs.{Schema, Comp, ResolvedTree, schema_of}
pub use Rattle.std.proofs.Math.ListN.{set}
pub use Rattle.std.proofs.Math.Nat.{mul-le-mul_right, div-le_self, mod-lt, mul-le-mul_left, add_comm}
pub use Rattle.std.proofs.lemmas.Bool.{cases_eq, cases_lt, false≢true, cond-false, cond-true, eq-eqb, ne_eqb}
pub use Rattle.std.proofs.lemmas.List.{drop_all, drop_more, get_or-set_other, get_or-set_same, length-set, length-take-le, take_all, length-replicate, get_or_default}
pub use Rattle.zf_walk.proofs.Picks.{AreWithin-tail, picked-cons, slice_get-nth, IsRowOf-length, length-picked, slice_get-picked}
pub use Rattle.std.proofs.lemmas.Cmp.{tied_itself}
pub use Rattle.zf_lines.proofs.Fewer.{ahead_count, ahead_reached, fewer, in_rows, reached_on, rows_of, one_fewer}
pub use Rattle.zf_format.specs.declared.format.Format.{Format}
pub use Rattle.zf_print.specs.declared.spelling.Spelling.{Spelling}
pub use Rattle.std.specs.List.{cons_option, filter_map}
pub use Rattle.std.proofs.lemmas.Option.{get_or_from_slice_get, slice_get_past, slice_get_read, slice_get_within}
pub use Rattle.zf_enum.specs.{conjuncts_of, Goal, property, HasTruth, one_truth_in, told}
pub use Rattle.zf_lines.specs.declared.fault.Status.TheVariants.{Done, PastBounds}
pub use Rattle.zf_walk.specs.declared.step.Step.{Step}
pub use Rattle.zf_walk.specs.declared.step.Step.TheVariants.{End, Breaks, Holds}
pub use Rattle.std.proofs.lemmas.List.Elements.{All-cons, All-head, All-nil, All-tail}
pub use Rattle.zf_walk.proofs.Order.{IsNth, less-at, nth, slice-ties}
pub use Rattle.zf_value.proofs.Exact.{exact}
pub use Rattle.zf_parts.specs.declared.meeting.Met.{Met}
pub use Rattle.std.proofs.KnownBytes.{Appends-nil, Appends-trans}
pub use Rattle.zf_lines.proofs.Fronts.{front_behind, front_longer, always_on_err}
pub use Rattle.std.specs.Option.{option_copied}
pub use Rattle.zf_lines.proofs.Searching.{same_later}
