-- What the proofs of this crate take from elsewhere, passed on from one place.
pub use Rattle.std.proofs.Common.{◌++◌, ◌+◌, ◌∷◌, ◌≡◌, ◌≤◌, ◌⊎◌, [], arith, Bool, false, inl, inr, length, List, map, None, Option, refl, Some, subst, sym, true, ℕ}
pub use Rattle.zf_tree.specs.{absent, binary, both, BoxTree, bracket, comprehension, chain, constant, DeclTree, definition, either, empty_set, free, given, include, left_need, span_of, link, Links, listed, named, need_of, no_decls, no_links, no_trees, numeral, ParagraphTree, Perhaps, prefix_need, present, quantified, relation_rule, right_need, rule_of, schema_bracket, schema_reference, schema_text, SchemaTree, sign_need, spelling, Tree, tree, unary, var_decl, VarDecls, vars}
pub use Rattle.zf_tree.specs.Trees.{Trees}
pub use Rattle.zf_tree.specs.declared.operator.Need.{Need}
pub use Rattle.zf_tree.specs.declared.operator.Unary.{Unary}
pub use Rattle.zf_tree.specs.declared.symbol.Relation.{Relation}
pub use Rattle.zf_tree.specs.declared.tree.Name.{Name}
pub use Rattle.zf_tree.specs.declared.span.Span.{Span}
pub use Rattle.zf_term.specs.{abbreviation, already_defined, AreFew, basic, clash, Comp, components_max, conjuncts_max, constructor, declared_sets, DeclaredSet, Defined, Definition, Fault, first_named, free_type, given_set, height_max, int, IsLow, IsSmall, IsTooLarge, IsWithin, KeepsTo, local_twice, mismatch, no_members, no_types, nodes_max, not_a_schema, not_declared, Offence, pair_type, plain, power, product, Schema, schema, schema_nodes, sets_max, too_large, Ty, type, type_nodes, Tys, unfit, ResolvedTree, conjuncts, height, term_span}
pub use Rattle.zf_term.specs.declared.fault.Limit.{Limit}
pub use Rattle.zf_term.specs.declared.fault.Limit.TheVariants.{TypeNodes}
pub use Rattle.zf_typing.specs.Typing.{declared}
pub use Rattle.zf_typing.specs.{AreAll, AreApart, AreMembers, Declare, Differ, HasMemberType, IsApart, IsOf, IsRepeated, LinksAreTyped, LinksOffend, Makes, member_need, member_sort, Misplaced, Offends, OneDiffers, OneOffends, PartIsPredicate, PartOffends, Repeats, resolved, row_type, SetsOffend, variables, Scope, Var, meaning, with_variables}
pub use Rattle.zf_sorts.specs.{a_schema, constant_sort, Disagreement, IsSmallSort, Meets, number_sort, predicate, PrefixTakes, relation_sort, set_sort, SignTakes, Sort, Takes, typed, UnaryTakes}
pub use Rattle.zf_calculus.specs.{Adds, Agree, Agrees, Clashes, comp, comp_named, conjoined, decorated, Differs, disjoined, empty_schema, HasTypeOf, IsNext, MarkAgrees, MarkClashes, marked, OneClashes, prime, schema_with, Stops, with_comp}
pub use Rattle.zf_schema.specs.{AnyByRecursion, both_span, IsNoSchema, name_span, OffendsAfter, OffendsAlone, OffendsConjuncts, OffendsDecls, OffendsNames, OffendsPredicates, OffendsRef, OffendsSchema, OffendsText, AddsAll, ChecksAll, Constrains, ConstrainsOne, Constructs, Declares, DeclaresOne, Defines, DefinesParagraph, Gives, IsChecked, IsNew, IsSchema, IsTaken, IsText, Item, OffendsConstructors, OffendsGiven, OffendsItem, OffendsParagraph, Refers, TakesAll, a_box, a_paragraph, abbreviated, inside, items, next_number, outside, with_global}
pub use Rattle.law_decided.specs.{SomeOffence}
pub use Rattle.std.specs.List.{AllByRecursion}
