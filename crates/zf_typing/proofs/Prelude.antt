-- What the proofs of this crate take from elsewhere, passed on from one place.
pub use Rattle.std.proofs.Common.{if◌then◌else◌, ◌*◌, ◌++◌, ◌+◌, ◌-◌, ◌<◌, ◌==◌, ◌∙◌, ◌∷◌, ◌≡◌, ◌≤◌, ◌⊎◌, [], add-one, ap, append-nil, append_assoc, arith, Bool, drop, Err, false, get_or, inl, inr, length, List, map, None, Ok, OnOk, Option, refl, set, Some, subst, suc, sym, take, true, true≢false, zero, ℕ, ⊎_elim}
pub use Rattle.std.proofs.Math.Seq.{drop-append_seam, take-append_seam, take-length, take-nil}
pub use Rattle.std.proofs.lemmas.Bool.Decides.{Decides-eqb}
pub use Rattle.std.proofs.lemmas.List.{at_drop_more, drop-map, drop_all, get_or-set_other, get_or-set_same, get_or-take, get_or_append_left, get_or_push, get_or_read_under, length-append, length-map, length-set, length-take, length-take-le, map-append, take-append-le, take-map, take-take, take_more}
pub use Rattle.std.proofs.lemmas.Option.{none-some, same_Some}
pub use Rattle.std.proofs.lemmas.Result.{IfOk-weaker}
pub use Rattle.std.proofs.lemmas.Slice.Eq.{bytes_eq-Decides}
pub use Rattle.std.specs.Prelude.{IfErr, IfOk, IsErr, IsErrAnd, Result, slice_get, slice_set, OnErr}
pub use Rattle.std.specs.Str.{bytes_eq}
pub use Rattle.std.specs.Vec.Iter.{into_iter_items}
pub use Rattle.zf_reference.specs.declared.reference.Reference.TheVariants.{Component, Global, Local}
pub use Rattle.zf_tree.specs.{absent, binary, bracket, comprehension, chain, constant, empty_set, left_need, span_of, link, link_of, Links, links, listed, named, need_of, no_decls, no_links, no_trees, numeral, part_of, Perhaps, prefix_need, present, quantified, relation_rule, right_need, rule_of, sign_need, spelling, Tree, tree, tree_of, trees, unary, var_decl, var_decl_of, var_decls, VarDecls}
pub use Rattle.zf_tree.specs.Trees.{Trees}
pub use Rattle.zf_tree.specs.declared.operator.Listed.{Listed}
pub use Rattle.zf_tree.specs.declared.operator.Listed.TheVariants.{Display, Product, Tuple}
pub use Rattle.zf_tree.specs.declared.operator.Need.{Need}
pub use Rattle.zf_tree.specs.declared.operator.Rule.{Rule}
pub use Rattle.zf_tree.specs.declared.operator.Sign.{Sign}
pub use Rattle.zf_tree.specs.declared.operator.Unary.{Unary}
pub use Rattle.zf_tree.specs.declared.symbol.Prefix.{Prefix}
pub use Rattle.zf_tree.specs.declared.symbol.Prefix.TheVariants.{Domain, Finset, Power, Range, Size}
pub use Rattle.zf_tree.specs.declared.symbol.Relation.{Relation}
pub use Rattle.zf_tree.specs.declared.tree.Name.{Name}
pub use Rattle.zf_tree.specs.declared.tree.Term.{Term}
pub use Rattle.zf_term.proofs.Walk.{at_end, at_step, dropped, pushed}
pub use Rattle.zf_term.specs.{Comp, comp_of, conjuncts, Defined, entry_of, first_named, found_as, globals_of, int, is_and, IsSmall, later, local_twice, mismatch, no_members, no_types, not_declared, Offence, pair_type, power, product, range_of, ranges, reference, resolved_link_of, resolved_of, ResolvedTree, too_large, Ty, type, type_of, types, Tys}
pub use Rattle.std.specs.Option.{option_or}
pub use Rattle.zf_term.specs.declared.fault.Limit.TheVariants.{TypeNodes}
pub use Rattle.zf_term.specs.declared.ztype.ZType.{ZType}
pub use Rattle.zf_typing.specs.Typing.{declared}
pub use Rattle.zf_typing.specs.{AreAll, AreApart, AreMembers, AreNew, AreRepeated, before, bound, bucket_from, BuildsTooLarge, Clash, component_meaning, DeclarationsOffend, Declare, Differ, DiffersAt, Disagree, global_meaning, global_sort, HasMemberType, is_conjunction, IsApart, IsBound, IsJudged, IsOf, IsOther, IsPart, IsRepeated, last_in, last_named, LinksAreTyped, LinksOffend, ListedTooLarge, Makes, MakesTooLarge, MakeTooLarge, meaning, meant, member_need, member_sort, Misplaced, Offends, OneDiffers, OneOffends, PartIsPredicate, PartOffends, referent, Repeats, resolved, resolved_all, resolved_links, resolved_part, resolved_ranges, row_type, Scope, SetsOffend, types_of, Var, var_type, variable_meaning, variable_of, variables, with_variables}
unfoldable pub use Rattle.zf_typing.specs.{AreHeads, bucket, IsIndexed, Judges, JudgesPart, scope_of}
pub use Rattle.zf_sorts.specs.{a_schema, Disagreement, IfFault, IsRefusal, IsSmallSort, IsStill, Meets, number_sort, offence_of, predicate, PrefixTakes, set_sort, SignTakes, Sort, sort_of, Takes, typed, UnaryTakes}
unfoldable pub use Rattle.zf_sorts.specs.{IsMade, IsMadeOfOne}
pub use Rattle.zf_sorts.specs.declared.fault.Refusal.{Refusal}
pub use Rattle.zf_sorts.specs.declared.fault.Refusal.TheVariants.{Fault, OutOfMemory}
pub use Rattle.zf_typing.specs.declared.index.Chained.{Chained}
pub use Rattle.zf_typing.specs.declared.judge.Judged.{Judged}
pub use Rattle.zf_typing.specs.declared.variable.Variable.{Variable}
pub use Rattle.zf_tree.specs.declared.operator.Operator.{Operator}
pub use Rattle.zf_tree.specs.declared.span.Span.{Span}
