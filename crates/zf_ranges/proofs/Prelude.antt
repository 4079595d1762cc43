-- What the proofs of this crate take from elsewhere, passed on from one place.
pub use Rattle.std.proofs.Common.{◌++◌, ◌+◌, ◌-◌, ◌<◌, ◌↔◌, ◌∙◌, ◌∷◌, ◌≡◌, ◌≤◌, ◌⊎◌, [], add-one, ap, arith, Bool, drop, Err, false, get_or, IfOk, inl, inr, length, List, map, None, not, Ok, Option, refl, Result, rules, Some, subst, suc, sym, take, true, zero, ℕ, ⊎_elim, ℤ, w64}
pub use Rattle.std.proofs.lemmas.Bool.{and_parts, both_ways, false≢true}
pub use Rattle.std.proofs.lemmas.List.{length-drop, length-map}
pub use Rattle.std.proofs.lemmas.Result.{IfOk-weaker}
pub use Rattle.std.specs.List.{AllByRecursion}
pub use Rattle.std.specs.Prelude.{IfErr, IsErrAnd, IsTrue, slice_get, is_some, ◌||◌, FitsSigned}
pub use Rattle.std.specs.declared.cmp.Ordering.TheVariants.{Less}
pub use Rattle.zf_value.proofs.Among.{ascending-push, every_at, every_from, member_at, members-append, members-push, members-take_more, take_all}
pub use Rattle.zf_value.proofs.Seen.{members-SetOf, parts-Tuple, is_Int, no_Int}
pub use Rattle.zf_value.specs.{IsAscending, IsMember, members, parts, value_order, number_of, value_of}
unfoldable pub use Rattle.zf_value.specs.{HaveSameMembers}
pub use Rattle.zf_value.specs.declared.value.Outcome.{Outcome}
pub use Rattle.zf_value.specs.declared.value.Outcome.TheVariants.{Is, Out, Undefined}
pub use Rattle.zf_value.specs.declared.plain.Value.{SetOf, Tuple, Value, Elem}
pub use Rattle.zf_term.proofs.SetsSeen.{of-Either}
pub use Rattle.zf_term.specs.{carrier, Comp, comp_of, DeclaredSet, DeclaredSets, Defined, globals_of, has_numbers, plain, power, product, resolved_of, ResolvedTree, set_of, sets_of, sides, Ty, type_of, types, Tys}
pub use Rattle.zf_term.specs.declared.extent.Infinite.{Infinite}
pub use Rattle.zf_term.specs.declared.schema.Domain.{Domain}
pub use Rattle.zf_extent.specs.{direct}
pub use Rattle.zf_finite.specs.{bounds, one_bounds}
pub use Rattle.std.specs.Option.{is_none}
pub use Rattle.zf_meaning.specs.{AreOfTypes, Environment, environment_of, globally, HasOutcome, IsCarrier, IsOfType, infinite_in, unended, IsExistingElement, type_number}
pub use Rattle.zf_ranges.specs.{AreAllRanges, AreRanges, BoundsAt, Filters, has_endless, held_at, IsAllOf, IsAllOfEach, IsAllWith, IsCarrierOut, IsComponentRange, IsFirstOut, IsHeld, IsIn, IsInCarrier, IsInOne, IsInPlain, IsInSet, IsInSets, IsListed, IsNoneOut, IsOneOut, IsOneRange, IsOutBy, IsPlainOut, IsSetOut, later_held, Lists, Narrows, NarrowsAll, Tells, RefusesStart, AreHeldRanges, IsHeldRange, AreAllOf, IsNumberHere}
pub use Rattle.zf_term.specs.declared.schema.Component.{Component}
pub use Rattle.zf_outcome.specs.{IsFrom, Describes}
