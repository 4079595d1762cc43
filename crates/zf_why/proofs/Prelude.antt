-- What the proofs of this crate take from elsewhere, passed on from one place.
pub use Rattle.std.proofs.Common.{◌++◌, ◌+◌, ◌<◌, ◌≤◌, ◌∙◌, ◌∷◌, ◌≡◌, ◌⊎◌, [], add-one, ap, append-nil, append_assoc, arith, Bool, true, false, drop, get_or, inl, inr, length, List, map, None, not, Some, Ok, Err, Option, Result, refl, subst, suc, sym, take, zero, ℕ, Global, Vec}
pub use Rattle.std.specs.List.{AllByRecursion}
pub use Rattle.std.specs.Prelude.{Contains, slice_get, slice_set, IsTrue, IfOk, ◌≢◌, IfSome, cond, unwrap_or, replicate, max, pos}
pub use Rattle.zf_walk.proofs.Lists.{Contains-cases, Contains-head, Contains-later, Contains-nil}
pub use Rattle.zf_walk.specs.{Advances, Event, IsEvent, IsTruthOf, Stage, AreDueWithin}
pub use Rattle.zf_walk.specs.Conjuncts.{Conjuncts}
pub use Rattle.zf_walk.specs.declared.judge.Truth.TheVariants.{False, Out, True}
pub use Rattle.zf_walk.specs.declared.step.Step.TheVariants.{Breaks, End, Holds}
pub use Rattle.zf_term.specs.{Comp, comp_of, conjunct_of, ResolvedTree, Schema, sets_of, all_joined, batch_of, binary, both_hold, joined, moved, numbering, one_holds, from_to, term_span, bracket, comprehension, chain, constant, empty_set, link, links, listed, no_links, number, onto, quantified, reference, references, resolved_link_of, resolved_of, unary, term}
pub use Rattle.zf_value.specs.{IsMember, value_order}
pub use Rattle.zf_value.specs.declared.plain.Value.{Value, Int}
pub use Rattle.zf_meaning.specs.{Environment, environment_of, in_row, IsTruth, HasOutcome}
pub use Rattle.zf_enum.specs.{Begins, conjuncts_of, Goal, HasTruth, portion, property, told, due_of, due}
pub use Rattle.zf_ranges.specs.{AreRanges, first_held, IsNoneOut, later_held, IsOneOut, IsOutAt}
pub use Rattle.zf_why.specs.{AreAlone, AreEmpty, ArePicked, CanAsk, CanBegin, Decides, HasNoValue, HasRow, HasValue, IsAllowed, IsCore, IsHeldRow, IsInHeldRange, RuleOut, schema_with, AreBlamed, are_held, AreOperands, AreOperandsOf, AreOutcomes, AreOutcomesIn, filled, HasHeld, HasHeldOutcome, is_held, is_value, of_two, Related, relation_of, flag, lacks, name_lacks, AreTold, split_at, nothing_beside, others_beside, IsTelling}
pub use Rattle.zf_cores.specs.{chosen_of, HasChosen, IsChosen, IsLeft, IsMinimal, OneOf}
pub use Rattle.zf_extent.specs.{offending, unless}
pub use Rattle.zf_cores.proofs.Choosing.{all_chosen_of, beside, seen_chosen, stays_out, goes_in, none_further}
pub use Rattle.zf_data.specs.{all_of}
pub use Rattle.zf_term.specs.declared.conjunct.Batch.{Batch}
pub use Rattle.zf_term.specs.declared.conjunct.Conjunct.{Conjunct}
pub use Rattle.zf_term.proofs.ConjunctsSeen.{of-Either, batch-seen}
pub use Rattle.std.proofs.lemmas.Result.{IfOk-weaker}
pub use Rattle.std.proofs.lemmas.List.{drop_all, map-append, take_all, take_more, length-map, length-set}
pub use Rattle.zf_reference.specs.declared.reference.Reference.{Reference}
pub use Rattle.zf_term.proofs.ResolvedSeen.{link-seen}
pub use Rattle.zf_term.specs.declared.resolved.ResolvedLink.{ResolvedLink}
pub use Rattle.zf_why.specs.declared.told.Told.{Told}
