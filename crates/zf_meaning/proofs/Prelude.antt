-- What the proofs of this crate take from elsewhere, passed on from one place.
pub use Rattle.std.proofs.Common.{◌++◌, ◌+◌, ◌-◌, ◌<◌, ◌↔◌, ◌∙◌, ◌∷◌, ◌≡◌, ◌≤◌, ◌⊎◌, [], add-one, ap, append-nil, append_assoc, arith, Bool, cond, drop, eqb, false, get_or, inl, inr, length, length-append, List, map, None, Option, refl, replicate, rules, set, Some, subst, suc, sym, take, take-append-drop, true, true≢false, w64, zero, ℕ, ℤ, ⊎_elim, Less}
pub use Rattle.std.proofs.Math.Seq.{take-append_seam, take-length}
pub use Rattle.std.proofs.lemmas.Bool.{false≢true, iff_false, or_cases, or_left, or_parts, or_right}
pub use Rattle.std.proofs.lemmas.Bool.Decides.{nat_tests}
pub use Rattle.std.proofs.lemmas.List.{drop-set, drop_more, length-map, map-append, take-append-le, take-set, take-set-le, take_all, take_more}
pub use Rattle.std.proofs.lemmas.List.Elements.{All-cons, All-contains, All-head, All-more, All-nil, All-push, All-replicate, All-tail, Contains-append_left, Contains-append_right, Contains-push_cases}
pub use Rattle.std.proofs.lemmas.Result.{err_from_is_err_and, IfOk-weaker}
pub use Rattle.std.specs.Cmp.Lexicographic.{other_text}
pub use Rattle.std.specs.List.{All, AllByRecursion, Contains, list_any}
pub use Rattle.std.specs.Option.{IfSome}
pub use Rattle.std.specs.Prelude.{FitsSigned, MatchOption, nat_lt, option_to_list, pos, Result, slice_get}
pub use Rattle.std.specs.Result.{IfOk}
pub use Rattle.std.specs.declared.alloc.AllocError.{AllocError}
pub use denote.Bor.{Bor}
pub use Rattle.zf_reference.specs.declared.reference.Reference.{Reference}
pub use Rattle.zf_reference.specs.declared.reference.Reference.TheVariants.{Component, Global, Local}
pub use Rattle.zf_value.proofs.Among.{every_also, every_at, members-push, not_below_itself}
pub use Rattle.zf_value.proofs.Divisions.{one_Modulus, one_Quotient}
pub use Rattle.zf_value.proofs.Exactly.{same}
pub use Rattle.zf_value.proofs.Making.{out_told, same_set}
pub use Rattle.zf_value.proofs.Once.{HasOne, one_number, one_on_number, one_on_numbers, one_set}
pub use Rattle.zf_value.proofs.Seen.{is_Int, members-SetOf, number_of-Int}
pub use Rattle.zf_value.specs.{AreFrom, IsApplied, IsAscending, IsDifference, IsEmptySet, IsMember, IsModulus, IsNegation, IsProduct, IsSum, members, number_of, OnNumbers, value_order}
unfoldable pub use Rattle.zf_value.specs.{AreElements, HaveSameMembers, IsCross, IsDisplay, IsInterval, IsPower, IsQuotient, IsSize}
pub use Rattle.zf_value.specs.declared.value.Outcome.{Outcome}
pub use Rattle.zf_value.specs.declared.value.Outcome.TheVariants.{Is, Out, Undefined}
pub use Rattle.zf_value.specs.declared.value.Truth.{Truth}
pub use Rattle.zf_value.specs.declared.value.Truth.TheVariants.{False, True}
pub use Rattle.zf_value.specs.declared.plain.Value.{Int, SetOf, Tuple, Value}
pub use Rattle.zf_tree.specs.declared.operator.Listed.{Listed}
pub use Rattle.zf_tree.specs.declared.operator.Operator.{Operator}
pub use Rattle.zf_tree.specs.declared.operator.Operator.TheVariants.{Application, Function, Generic}
pub use Rattle.zf_tree.specs.declared.operator.Sign.TheVariants.{Symbol}
pub use Rattle.zf_tree.specs.declared.operator.Unary.{Unary}
pub use Rattle.zf_tree.specs.declared.operator.Unary.TheVariants.{Sign}
pub use Rattle.zf_tree.specs.declared.symbol.Arrow.{Arrow}
unfoldable pub use Rattle.zf_families.specs.{AreArrows}
pub use Rattle.zf_tree.specs.declared.symbol.Connective.{Connective}
pub use Rattle.zf_tree.specs.declared.symbol.Connective.TheVariants.{And, Iff, Implies, Or}
pub use Rattle.zf_tree.specs.declared.symbol.Infix.{Infix}
pub use Rattle.zf_tree.specs.declared.symbol.Infix.TheVariants.{Composition, Difference, Div, DomainRestriction, DomainSubtraction, Intersection, Maplet, Minus, Mod, Overriding, Plus, RangeRestriction, RangeSubtraction, Times, Union, UpTo}
pub use Rattle.zf_tree.specs.declared.symbol.Quantifier.{Quantifier}
pub use Rattle.zf_tree.specs.declared.symbol.Quantifier.TheVariants.{Exists, ExistsOne, ForAll}
pub use Rattle.zf_tree.specs.declared.symbol.Relation.{Relation}
pub use Rattle.zf_term.proofs.ResolvedSeen.{link-seen, of-Binary, of-Bracket, of-Comprehension, of-Chain, of-Constant, of-Listed, of-Name, of-Quantified, of-Unary, range-seen}
pub use Rattle.zf_term.specs.{abbreviation, absent, all_onto, basic, binary, bracket, comprehension, chain, constant, constructor, Defined, Definition, definition_of, empty_set, free_type, given_set, globals_of, int, link, links, links_onto, listed, no_links, no_ranges, no_terms, no_types, number, onto, part_of, part_onto, power, present, product, quantified, range, range_of, Ranges, ranges, ranges_onto, reference, resolved_link_of, resolved_of, ResolvedLinks, ResolvedPart, ResolvedTree, schema, term, terms, Ty, type, type_of, types, Tys, unary, first_named}
pub use Rattle.zf_term.specs.ResolvedTrees.{ResolvedTrees}
pub use Rattle.zf_term.specs.declared.extent.Infinite.{Infinite}
pub use Rattle.zf_term.specs.declared.resolved.Range.{Range}
pub use Rattle.zf_term.specs.declared.resolved.Resolved.{Resolved, size-Resolved}
pub use Rattle.zf_term.specs.declared.resolved.ResolvedLink.{ResolvedLink}
pub use Rattle.zf_extent.specs.{is_membership}
pub use Rattle.zf_meaning.specs.{AddsRow, ahead, all_need, AreAccepted, AreCarriers, AreComplete, AreElementsIf, AreLinked, AreNeutral, AreNeutralIf, AreOthers, AreSizes, AreWorkedOut, before, Builds, Context, declared_of, definition_number, element_count, Environment, environment_of, found_number, given_sets, globally, HasOutcome, HaveOutcomes, HaveRanges, headed, headed_from, infinite_right, IsAccepted, IsAt, IsBound, IsBuilt, IsBuiltBy, IsBuiltOver, IsCarrier, IsConstraint, IsEarlier, IsEquation, IsFirst, IsNext, IsOther, IsOutcomeOf, IsOutOfBounds, IsPart, IsPassed, IsPiece, IsRefusal, IsSizeFault, IsStated, IsTruth, IsTypeSetIf, IsVariable, IsWanted, IsWithinBounds, IsWorkedOut, LacksSize, links_need, lists_of, names, need, NeedsFront, neutral, outcome_in, part_need, PassesBy, place_below, ranges_need, RefusesSize, row_of, row_value, scope_of, seen, sets_with, Skips, spread, type_number, value_or, with_further, with_given, with_value_at, within, CountsAt, CountsBy, CountsFor, given_at, given_by, in_row, IsNumberSet, least, AreBelow, IsBelow, IsConstantOutcome, unended}
pub use Rattle.zf_outcome.specs.{BinaryOutcome, conjunction, connected, connective_of, decided, disjunction, equivalence, found_of, found_outcome, HasTwo, Holds, HoldsOf, InfixOutcome, is_settled, IsAtom, IsConjunction, IsConnected, IsDescribed, IsDisjunction, IsEquivalence, IsExists, IsExistsOne, IsForAll, IsLink, IsOver, IsQuantified, IsTest, IsTold, lack_with, ListedOutcome, none, OnBoth, one_more, one_out, one_undefined, OnOne, OnSeveral, opposite, PrefixOutcome, repeated, Several, several_by, several_of, SignOutcome, Tells, truth_by, UnaryOutcome, values, values_with, when_over, when_settled, with}
unfoldable pub use Rattle.zf_outcome.specs.{Describes, IsTruthIn}
unfoldable pub use Rattle.zf_meaning.specs.{all_rows, ArePassed, ArePlaces, Falsifies, IsNeutral, picked, Refutes, rows_after, Wants}
pub use Rattle.zf_outcome.specs.declared.described.Described.{Described}
pub use Rattle.zf_outcome.specs.declared.described.Described.TheVariants.{Arrows, Interval, Plain}
pub use Rattle.zf_meaning.specs.declared.env.Env.{Env}
pub use Rattle.zf_meaning.specs.declared.evaluate.early.Frame.{Frame}
pub use Rattle.zf_meaning.specs.declared.evaluate.early.Wanted.{Wanted}
pub use Rattle.zf_meaning.specs.declared.evaluate.ranges.Spread.{Spread}
pub use Rattle.zf_outcome.specs.declared.gathered.Lack.{Lack}
pub use Rattle.zf_outcome.specs.declared.gathered.Lack.TheVariants.{Nothing}
pub use Rattle.zf_meaning.specs.declared.rows.Passing.{Passing}
pub use Rattle.zf_meaning.specs.declared.rows.Passing.TheVariants.{Front, Others}
pub use Rattle.zf_meaning.specs.declared.rows.Rows.{Rows}
pub use Rattle.zf_meaning.specs.declared.sizes.Size.{Size}
pub use Rattle.zf_outcome.specs.declared.tally.Tally.{Tally}
pub use Rattle.std.proofs.lemmas.Option.{same_Some, slice_get_read}
pub use Rattle.zf_tree.specs.declared.symbol.Relation.TheVariants.{Equal, Member, NotMember}
pub use Rattle.zf_term.specs.declared.extent.Infinite.TheVariants.{Num, Nat, Nat1}
pub use Rattle.zf_tree.specs.declared.symbol.Constant.{Constant}
pub use Rattle.zf_outcome.proofs.Tests.{plain-describes}
pub use Rattle.zf_outcome.proofs.Comparisons.{written-both}
pub use Rattle.zf_tree.specs.declared.span.Span.{Span}
