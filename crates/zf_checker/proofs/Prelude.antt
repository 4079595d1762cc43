-- What the proofs of this crate take from elsewhere, passed on from one place.
pub use Rattle.std.proofs.Common.{if◌then◌else◌, ◌&&◌, ◌++◌, ◌+◌, ◌∙◌, ◌∷◌, ◌≡◌, ◌⊎◌, [], ap, arith, Bool, drop, Err, false, flat_map, IfErr, inl, inr, length, List, map, None, Ok, OnErr, OnOk, Option, refl, Result, rules, slice_get, Some, subst, suc, sym, take, true, zero, ℕ, codes}
pub use Rattle.std.proofs.lemmas.List.{append-nil, append_assoc, length-append, map-append, take-append-drop}
pub use Rattle.std.proofs.lemmas.Option.{none-some, same_Some, slice_get-map}
pub use Rattle.std.proofs.lemmas.Result.{on_ok_weaker}
pub use Rattle.std.specs.Option.{option_map, option_or}
pub use Rattle.std.specs.Str.{bytes_eq}
pub use Rattle.zf_tree.specs.{box_of, BoxTree, decl_of, definition, free, given, Links, no_decls, no_trees, paragraph_of, ParagraphTree, Perhaps, schema_text, spelling, Tree, tree, tree_of, var_decl, VarDecls}
pub use Rattle.zf_tree.specs.Trees.{Trees}
pub use Rattle.zf_tree.specs.declared.tree.Name.{Name}
pub use Rattle.zf_tree.specs.declared.span.Span.{Span}
pub use Rattle.zf_term.proofs.Choices.{or_none}
pub use Rattle.zf_term.proofs.SameNames.{swapped}
pub use Rattle.zf_term.proofs.Walk.{at_end, at_step}
pub use Rattle.zf_term.specs.{abbreviation, Comp, comp_of, constructor, Defined, Definition, definition_of, Fault, first_named, free_type, given_set, globals_of, later, next_number, Offence, ResolvedTree, schema, sets_of, sides, Ty, Tys}
pub use Rattle.zf_typing.proofs.NoOffence.{no_offence}
pub use Rattle.zf_typing.proofs.OneSort.{one_sort, same_typed}
pub use Rattle.zf_sorts.specs.{fault_of, IfFault, offence_of, predicate, set_sort, Sort, typed}
pub use Rattle.zf_typing.specs.{bound, referent, resolved, resolved_all, resolved_links, resolved_part, resolved_ranges, AreMembers, component_meaning, Declare, global_meaning, HasMemberType, IsOf, last_named, LinksAreTyped, meaning, member_sort, PartIsPredicate, Scope, Var, variable_meaning, with_variables}
pub use Rattle.zf_sorts.specs.declared.fault.Refusal.{Refusal}
pub use Rattle.zf_calculus.specs.{Agree, Agrees, all_unchanged, AreOnce, comp, comp_named, decorated, either_comps, HasTypeOf, new_place, place_of, place_or, prime, sets_on, unchanged, with_comp, with_comps}
pub use Rattle.zf_schema.specs.{a_box, a_paragraph, AreDefinedOnce, ChecksAll, ChecksOne, CompsJoined, CompsOfEither, DecorationRenames, Defines, FirstKept, GlobalsKept, HasCompsOnce, HaveCompsOnce, IsChecked, Item, items, items_in, NamesOnce, new_comps, OffendsItem, outside, PlacesCarried, sets_found, SetsJoined, SetsOfEither, signature, StandsAt, type_found, type_named, TypesJoined, TypesOfEither, unless_found, XiEquates}
pub use Rattle.zf_checker.specs.{AreWellTyped, choices_text, component_line, definition_text, ExtentsKept, GlobalsWellTyped, IsMadeAfter, listing, Notes}
unfoldable pub use Rattle.zf_checker.specs.{RunsOne}
unfoldable pub use Rattle.zf_checker.specs.Runs.{Runs}
pub use Rattle.zf_checker.specs.declared.checker.Checked.{Checked}
pub use Rattle.zf_schema.proofs.Named.{named_there, found, stands_there, joined_type, joined_sets, type_of_once, type_one_more}
pub use Rattle.zf_schema.proofs.Once.{schema_once, text_once, decorated_once}
pub use Rattle.zf_term.proofs.PrintedTypes.{both}
