-- What the proofs of this crate take from elsewhere, passed on from one place.
pub use Rattle.std.proofs.Common.{◌++◌, ◌+◌, ◌<◌, ◌↔◌, ◌∙◌, ◌∷◌, ◌≡◌, ◌≤◌, ◌⊎◌, [], ap, arith, IfSome, inl, inr, length, List, map, max, None, Option, refl, Some, subst, suc, sym, take, zero, ℕ, ⊎_elim}
pub use Rattle.std.proofs.lemmas.Result.{IfOk-weaker, on_ok_weaker}
pub use Rattle.std.specs.Option.{option_copied}
pub use Rattle.std.specs.Prelude.{All, slice_get, unwrap_or}
pub use Rattle.zf_walk.specs.{AreAllAhead, AreDueWithin}
pub use Rattle.zf_walk.specs.declared.judge.Truth.{Truth}
pub use Rattle.zf_plan.proofs.Alike.{all_ahead, same_events}
pub use Rattle.zf_plan.specs.{both, either, exchanged, Grove, Grows, HasLeavesWithin, HaveLeavesWithin, IsOfBoth, IsOfEither, IsTreeTruth, leaf, negated, opposite, planted, SayTheSame, Takes, Tree, tree_at, trees_made, trees_of}
pub use Rattle.zf_reference.specs.declared.reference.Reference.{Reference}
pub use Rattle.zf_reference.specs.declared.reference.Reference.TheVariants.{Component, Global, Local}
pub use Rattle.zf_value.proofs.Exact.{exact}
pub use Rattle.zf_value.specs.{value_order}
pub use Rattle.zf_value.specs.declared.value.Outcome.{Outcome}
pub use Rattle.zf_value.specs.declared.plain.Value.{Value}
pub use Rattle.zf_tree.specs.declared.operator.Unary.TheVariants.{Not}
pub use Rattle.zf_term.proofs.ResolvedSeen.{of-Binary, of-Unary}
pub use Rattle.zf_term.specs.{binary, Comp, comp_of, conjunct_of, references, resolved_of, ResolvedTree, schema_of, unary}
pub use Rattle.zf_term.specs.declared.resolved.Resolved.{Resolved}
pub use Rattle.zf_meaning.specs.{Environment, environment_of, in_row, IsTruth, longer, AreBelow, IsBelow, UsesFirst}
pub use Rattle.zf_outcome.specs.{IsConjunction, IsDisjunction}
pub use Rattle.zf_lift.specs.{AreEach, AreLifted, IsLifted, IsLonger}
pub use Rattle.zf_ranges.specs.{AreAllRanges, AreHeldRanges, AreRanges, first_held, IsComponentRange, IsHeldRange, later_held, IsNoneOut}
pub use Rattle.zf_enum.specs.{due, due_of, greatest_place, HasTruth, judged, place_named, property, told, uses_first}
pub use Rattle.zf_instances.specs.{ArePlanted, IsPlanted, NeedWithin, Plants, PlantsNext, with_first, AreHeldAgain}
pub use Rattle.zf_enum.specs.declared.property.Property.{Property}
pub use Rattle.zf_tree.specs.declared.operator.Unary.{Unary}
pub use Rattle.zf_tree.specs.declared.operator.Operator.{Operator}
pub use Rattle.zf_lift.specs.declared.lifted.Lifted.{Lifted}
pub use Rattle.zf_tree.specs.declared.operator.Operator.TheVariants.{Connective}
pub use Rattle.zf_tree.specs.declared.span.Span.{Span}
