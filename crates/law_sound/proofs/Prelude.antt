-- What the proofs of this crate take from elsewhere, passed on from one place.
pub use Rattle.std.proofs.Common.{if◌then◌else◌, ◌++◌, ◌+◌, ◌<◌, ◌^◌, ◌↔◌, ◌∙◌, ◌∷◌, ◌≡◌, ◌≤◌, ◌⊎◌, [], add-one, ap, arith, Bool, false, inl, inr, length, Less, List, map, nat_lt, None, Option, refl, replicate, Some, subst, suc, sym, take, true, zero, ℕ, ℤ, ⊎_elim, true≢false}
pub use Rattle.std.proofs.lemmas.Int.{ints}
pub use Rattle.std.proofs.lemmas.Option.{none-some, same_Some, slice_get_within}
pub use Rattle.std.specs.Int.{w64}
pub use Rattle.std.specs.List.{AllByRecursion}
pub use Rattle.std.specs.Prelude.{◌<ℤ◌, ◌≤ℤ◌, FitsSigned, MatchOption, negsuc, pos, slice_get, ◌+ℤ◌, ◌||◌}
pub use Rattle.std.specs.Str.{bytes_eq}
pub use Rattle.zf_reference.specs.declared.reference.Reference.{Reference}
pub use Rattle.zf_value.proofs.Among.{every_at, every_from, member, members-append, not_below_itself}
pub use Rattle.zf_value.proofs.Seen.{members-SetOf, number_of-Int, parts-Tuple, same_number}
pub use Rattle.zf_value.specs.{AreFrom, IsAscending, IsBetween, IsFunctional, IsInDomain, IsInjective, IsInRange, IsMember, IsNumber, IsPairOf, IsRelationThat, IsSetOf, IsSubset, IsTotal, members, number_of, OnNumber, OnNumbers, parts, Relates, value_order}
unfoldable pub use Rattle.zf_value.specs.{AreAmong, AreElements, IsApplied, IsBetweenNumbers, IsComposition, IsCross, IsDifference, IsDisplay, IsDomain, IsDomainRestriction, IsDomainSubtraction, IsImage, IsIntersection, IsInterval, IsInverse, IsModulus, IsNegation, IsOverriding, IsPower, IsProduct, IsQuotient, IsRange, IsRangeRestriction, IsRangeSubtraction, IsSetDifference, IsSize, IsSum, IsUnion}
pub use Rattle.zf_value.specs.declared.TheConstants.{SET_MAX}
pub use Rattle.zf_value.specs.declared.value.Outcome.{Outcome}
pub use Rattle.zf_value.specs.declared.value.Outcome.TheVariants.{Is, Out, Undefined}
pub use Rattle.zf_value.specs.declared.plain.Value.{Elem, Int, SetOf, Tuple, Value}
pub use Rattle.zf_tree.specs.{both, DeclTree, either, function_rule, include, no_decls, no_trees, Perhaps, rule_of, schema_bracket, schema_reference, schema_text, SchemaTree, spelling, Tree, tree, var_decl, VarDecls, vars}
pub use Rattle.zf_tree.specs.Trees.{Trees}
pub use Rattle.zf_tree.specs.declared.operator.Operator.{Operator}
pub use Rattle.zf_tree.specs.declared.operator.Unary.{Unary}
pub use Rattle.zf_tree.specs.declared.symbol.Constant.{Constant}
pub use Rattle.zf_tree.specs.declared.tree.Name.{Name}
pub use Rattle.zf_term.proofs.SameNames.{is_itself, is_same, swapped}
pub use Rattle.zf_term.specs.{abbreviation, basic, carrier, Comp, constructor, DeclaredSet, DeclaredSets, Defined, Definition, first_named, free_type, given_set, has_numbers, int, later, no_sets, no_types, pair_type, plain, power, product, ResolvedPart, ResolvedTree, Schema, schema, set, sets_of, sides, Ty, type, types, Tys, has_elements, have_numbers, next_number}
pub use Rattle.std.specs.Option.{option_or}
pub use Rattle.zf_term.specs.ResolvedTrees.{ResolvedTrees}
pub use Rattle.zf_term.specs.declared.extent.Infinite.{Infinite}
pub use Rattle.zf_typing.specs.{AreAll, AreMembers, bound, component_meaning, Declare, definition_sort, global_meaning, global_sort, IsOf, last_named, Makes, meaning, member_sort, referent, resolved, resolved_all, resolved_part, resolved_ranges, row_type, Scope, types_of, Var, variable_meaning, variables}
pub use Rattle.zf_sorts.specs.{a_schema, constant_sort, number_sort, predicate, PrefixTakes, relation_sort, set_sort, Sort, Takes, typed, UnaryTakes}
pub use Rattle.zf_calculus.specs.{comp, EachOnce, empty_schema, marked, Agree, Agrees, AreOnce, HasTypeOf, MarkAgrees, comp_named, decorated, either_comps, prime, sets_on, with_comp, with_comps}
pub use Rattle.zf_extent.specs.{constant_set, definition_extent, direct, extent_by, extent_found, extent_named, extent_set, offending}
pub use Rattle.zf_schema.proofs.Named.{joined_type, named_there, type_of_once, type_one_more}
pub use Rattle.zf_schema.proofs.Once.{constrained_comps, decorated_once, joined_once, reference_once, schema_once}
pub use Rattle.zf_schema.specs.{AddsAll, AreDefinedOnce, Declares, DeclaresOne, HasCompsOnce, HaveCompsOnce, IsSchema, outside, Refers, type_found, type_named}
pub use Rattle.zf_checker.specs.{AreWellTyped, IsMadeAfter}
pub use Rattle.zf_meaning.specs.{AreCarriers, AreElementsIf, AreOfTypes, AreWorkedOut, before, Context, definition_number, element, Environment, found_number, globally, HasOutcome, HaveOutcomes, HaveRanges, IsBuilt, IsBuiltBy, IsCarrier, IsConstraint, IsEnvironment, IsExistingElement, IsOfType, IsOutcomeOf, IsRow, IsTypeSet, IsTypeSetIf, outcome_in, outcome_or, row_value, type_number, value_or, within, AddsSize, AreSizes, IsConstantOutcome, IsNumberSet, infinite_in, least, unended}
unfoldable pub use Rattle.zf_families.specs.{AreArrows, IsArrow}
pub use Rattle.zf_outcome.specs.{BinaryOutcome, InfixOutcome, IsIn, ListedOutcome, OnBoth, one_more, one_out, one_undefined, OnOne, OnSeveral, PrefixOutcome, repeated, Several, UnaryOutcome, values}
pub use Rattle.law_sound.specs.{IsFrontOfRow, AreHeldTyped, CarriersAreExact, CarriersAreOutcomes, EventsOfTextsTyped, EventsTyped, IsTypeAt, OutcomesTyped, RowsTyped, SpellAll, Spells, context, scope}
pub use Rattle.std.proofs.lemmas.Bool.{cases_lt}
pub use Rattle.zf_ranges.specs.{AreRanges, IsComponentRange, IsInCarrier, IsInPlain, IsInSet, IsInSets, first_held, has_endless, later_held}
pub use Rattle.zf_term.specs.declared.extent.Infinite.TheVariants.{Nat, Nat1, Num}
pub use Rattle.zf_tree.specs.declared.operator.Listed.TheVariants.{Product}
