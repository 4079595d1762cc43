-- What the proofs of this crate take from elsewhere, passed on from one place.
pub use Rattle.std.proofs.Common.{if◌then◌else◌, ◌++◌, ◌+◌, ◌<◌, ◌^◌, ◌∙◌, ◌∷◌, ◌≡◌, ◌≤◌, [], ap, arith, Bool, drop, Err, false, inl, inr, is_err, length, List, map, None, Ok, OnOk, Option, refl, Result, rules, slice_get, Some, subst, suc, sym, take, true, true≢false, zero, ℕ}
pub use Rattle.std.proofs.lemmas.List.{append-nil, append_assoc, append_cancel_right, length-append, take-append-le, take-take}
pub use Rattle.std.proofs.lemmas.Option.{none-some, same_Some}
pub use Rattle.std.specs.Str.{bytes_eq}
pub use Rattle.zf_tree.specs.{both, decl_of, DeclTree, definition, either, free, given, include, paragraph_of, ParagraphTree, schema_bracket, schema_reference, schema_text, SchemaTree, spelling, Tree, tree_of, vars}
pub use Rattle.zf_tree.specs.declared.tree.Name.{Name}
pub use Rattle.zf_tree.specs.declared.tree.SchemaRef.{SchemaRef}
pub use Rattle.zf_term.proofs.Choices.{or_else_assoc, or_none}
pub use Rattle.zf_term.proofs.SameNames.{is_itself, is_same, swapped, tests_alike}
pub use Rattle.zf_term.proofs.Walk.{at_end, at_step}
pub use Rattle.zf_term.specs.{abbreviation, Comp, comp_of, conjuncts, constructor, DeclaredSet, Defined, Definition, first_named, free_type, given_set, globals_of, has_elements, IsTooLarge, IsWithin, KeepsTo, later, next_number, Offence, plain, resolved_of, ResolvedTree, Schema, schema, schema_of, Ty, type_of, clash, term_span, sides_span, too_large, already_defined, conjunct_of}
pub use Rattle.std.specs.Option.{option_or}
pub use Rattle.zf_term.specs.declared.fault.Limit.{Limit}
pub use Rattle.zf_typing.proofs.NoOffence.{no_offence}
pub use Rattle.zf_typing.proofs.Judging.{if_fault, told}
pub use Rattle.zf_typing.proofs.OneSort.{one_sort, same_set}
pub use Rattle.zf_typing.specs.{Offends, resolved}
pub use Rattle.zf_sorts.specs.{IfFault, offence_of, predicate, set_sort}
pub use Rattle.zf_sorts.specs.declared.fault.Refusal.{Refusal}
pub use Rattle.zf_calculus.specs.{Adds, Agree, Agrees, AreOnce, Clashes, comp, comp_named, conjoined, decorated, Differs, disjoined, either_comps, empty_schema, IfStopped, Includes, IsNext, MarkAgrees, MarkClashes, marked, OneClashes, prime, Stops, with_comp, with_comps, HasTypeOf, schema_with, constrained, grown}
pub use Rattle.zf_schema.specs.{abbreviated, AddsAll, AnyByRecursion, both_span, CantAdd, CantConjoin, CantConstrain, CantDeclare, CantRefer, CantTake, Constrains, ConstrainsOne, Constructs, Declares, DeclaresOne, DefinesParagraph, either_span, elements, Gives, HasCompsOnce, HaveCompsOnce, inside, IsNamed, IsNoSchema, IsSchema, IsText, LacksSchema, name_span, OffendsAfter, OffendsAlone, OffendsConjuncts, OffendsConstructors, OffendsDecls, OffendsGiven, OffendsNames, OffendsPredicates, OffendsRef, OffendsSchema, OffendsText, OneConstrainsTooMuch, OneOffendsAfter, outside, over, Refers, Refuses, sets_found, sets_named, StopsEither, TakesAll, type_found, type_named, with_global, IsTaken, IsNew}
pub use Rattle.zf_tree.specs.declared.tree.RefMark.{RefMark}
pub use Rattle.zf_tree.specs.declared.tree.RefMark.TheVariants.{Plain, Delta, Xi}
pub use Rattle.zf_tree.specs.declared.span.Span.{Span}
