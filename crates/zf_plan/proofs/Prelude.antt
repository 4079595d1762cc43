-- What the proofs of this crate take from elsewhere, passed on from one place.
pub use Rattle.std.proofs.Common.{◌*◌, ◌++◌, ◌+◌, ◌-◌, ◌<◌, ◌↔◌, ◌∙◌, ◌∷◌, ◌≡◌, ◌≤◌, ◌⊎◌, [], ap, append_assoc, arith, Bool, cond, drop, eqb, Err, false, get_or, inl, inr, length, length-append, List, map, max, None, Ok, Option, refl, replicate, Result, rules, set, Some, subst, suc, sym, take, true, zero, ℕ, ⊎_elim, slice_set, not, ◌||◌, Global, Vec}
pub use Rattle.std.proofs.Math.Seq.{get_or-append_seam, map-set_same, take-append_seam}
pub use Rattle.std.proofs.lemmas.Bool.{cases_eq, cases_lt, false≢true, cases_Bool, cases_order, eqb-true, eq-eqb, ne_eqb}
pub use Rattle.std.proofs.lemmas.List.{append-nil, drop_more, get_or-replicate, get_or-set_other, get_or-set_same, get_or-take, get_or_append_left, get_or_default, length-map, length-replicate, length-set, length-take-le, map-append, take-append-drop, take-set-le, take-take, take_all, take_more, take_more_set, take-append-le, ext_get_or, get_or-map, get_or_past, map-id, map-set}
pub use Rattle.std.proofs.lemmas.Option.{get_or_from_slice_get, slice_get-get_or, slice_get_read, slice_get_within}
pub use Rattle.std.specs.Cmp.{IsTotalOrder}
pub use Rattle.std.specs.Option.{option_copied}
pub use Rattle.std.specs.Prelude.{◌≢◌, All, AllPairs, Contains, IfSome, IsSomeAnd, IsTrue, slice_get, unwrap_or, bit_or, slice_index, ◌%◌, ◌^◌}
pub use Rattle.std.specs.Result.{IfOk, OnErr, OnOk}
pub use Rattle.std.specs.declared.cmp.Ordering.{Ordering}
pub use Rattle.std.specs.declared.cmp.Ordering.TheVariants.{Equal, Greater, Less}
pub use Rattle.zf_walk.proofs.Given.{placed, placed_at, stands_there}
pub use Rattle.zf_walk.proofs.Order.{greater-at, IsNth, less-at, nth, reaches-push, reaches-under, tied-at, under-at, under-push, under-differs}
pub use Rattle.zf_walk.proofs.Picks.{AreWithin-push, AreWithin-tail, AreWithin-take, IsFrontOf-picked, IsRowOf-front, IsRowOf-length, length-picked, nth-at, picked-cons, picked-nil, picked-push, range-is, slice_get-nth, IsFrontOf-length, slice_get-picked}
pub use Rattle.zf_walk.specs.{Advances, Ahead, AreAllAhead, AreAscending, AreDueWithin, AreWithin, ComesAfter, ended, Event, first_of, HaveOneTruth, is_reached, IsAhead, IsEvent, IsNoneAhead, IsRowOf, IsTruthOf, KeepTruths, picked, reaches, SameAhead, Stage, Takes, TiesAreEqual, under, FollowUsed, HasBit, cut, HasLength, IsBound, IsCount, IsDueTest, IsNumberOfTests, IsUpTo, IsWalked, past, unseen, AreTrue, IsSeen, Stays, IsBounded, AreTests}
pub use Rattle.zf_walk.specs.Conjuncts.{Conjuncts}
pub use Rattle.zf_walk.specs.declared.judge.Truth.{Truth}
pub use Rattle.zf_walk.specs.declared.judge.Truth.TheVariants.{False, Out, True}
pub use Rattle.zf_walk.specs.declared.step.Step.{Step}
pub use Rattle.zf_walk.specs.declared.step.Step.TheVariants.{Breaks, End, Holds}
pub use Rattle.zf_plan.specs.{above, ahead_of, AreBelow, below, both, bound, conjoined, due_of, either, Gives, Goes, GoesOn, Grove, Grows, HasLeavesWithin, HaveLeavesWithin, is_over, IsAt, IsChoice, IsChosen, IsHopeless, IsKnown, IsNextChoice, IsOfBoth, IsOfEither, IsOver, IsPlan, IsSettled, IsSound, IsTreeTruth, KeepsEvents, Lands, LandsNext, leaf, Narrows, negated, opposite, path, planted, Remembers, Stands, steps_left, Tells, Tree, tree_at, tree_of, trees_made, trees_of, SayTheSame, AreAlike, Covers, HasBits, IsBlamed, IsFailed, IsRefuted, StaysChoice, touches, exchanged, AreDues, Forgets, Memory, Accuses, IsCounted, IsKept, Jumps, mark_at, Passes, PassesOpen, AreKeys, IsKeyOf, StaysIn, AreStamped, AreUnknown, IsNew, known_by, memory_of, AreKept, AreNew, EachLeaf, is_still, unmarked, UsesFirst, Renews, AreChoosers, AreDue, AreLasts, AreTouched, IsLeafDue, touches_inside, AreLeaves, AreSeen, AreSeenOf, IsTold, seen_at, AreSifted, IsGreatest, IsOneFalse, KeepsChosen, passing, cleared, IsFlat, IsAmong, ArePassed, Tests, IsBare, IsLayer, AreKeyed, counted, view_of, IsPlain, all_of, below_it, CountsFound, Finds, IsFound, NeedsWithin, AreHeld, CountsOn, IsLeafOrBelow, IsWalk}
unfoldable pub use Rattle.zf_plan.specs.{IsSoFar}
pub use Rattle.zf_plan.specs.declared.place.Place.{Place}
pub use Rattle.std.proofs.lemmas.Nat.Bits.{bit_at-lt, bit_at_or, bit_at_ones}
pub use Rattle.zf_plan.specs.declared.marks.Mark.{Mark}
pub use Rattle.zf_walk.proofs.Reaching.{IsReached-from, is_reached-from, unreached, IsUpTo-from, IsUpTo-to, IsAhead-to, IsLater-from, later-reached, IsAhead-from}
pub use Rattle.zf_plan.specs.Counts.{Counts}
pub use Rattle.zf_plan.specs.declared.plan.Plan.{Plan}
pub use Rattle.zf_plan.specs.declared.marks.Marks.{Marks}
pub use Rattle.zf_walk.specs.declared.table.Table.{Table}
pub use Rattle.zf_plan.specs.declared.memo.Stamped.{Stamped}
pub use Rattle.std.specs.Vec.{with_item}
pub use Rattle.zf_walk.specs.declared.seen.Seen.{Seen}
pub use Rattle.zf_walk.proofs.Lists.{Contains-cases, Contains-either, Contains-head, Contains-left, Contains-nil, Contains-right, Contains-later}
pub use Rattle.zf_plan.specs.declared.plan.Layer.{Layer}
pub use Rattle.std.specs.Vec.Iter.{into_iter_items}
