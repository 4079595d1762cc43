-- What the definitions of this crate and its contracts take from elsewhere, passed on from one place.
pub use Rattle.zf_tree.specs.declared.tree.Name.{Name}
pub use Rattle.zf_tree.specs.{absent, binary, bracket, span_of, Perhaps, present, spelling, Tree, VarDecls, comprehension, chain, empty_set, left_need, link, Links, listed, named, need_of, no_decls, no_links, no_trees, quantified, relation_rule, right_need, rule_of, tree, unary, var_decl, tree_of, part_of, var_decl_of, link_of, trees, numeral}
pub use Rattle.zf_tree.specs.declared.operator.Need.{Need}
pub use Rattle.zf_term.specs.{is_and, local_twice, mismatch, no_members, no_types, Offence, resolved_of, Ty, type, Tys, IsSmall, not_declared, power, too_large, comp_of, globals_of, type_of, abbreviation, basic, Comp, constructor, Defined, Definition, first_named, free_type, given_set, later, schema, types, found_as, range_of, resolved_link_of, definition_of}
pub use Rattle.zf_sorts.specs.{IfFault, Meets, sort_of, typed, Sort, Disagreement, IsSmallSort, Takes, UnaryTakes, a_schema, set_sort, constant_sort, number_sort, predicate, IsRefusal}
pub use Rattle.zf_tree.specs.Trees.{Trees}
pub use Rattle.zf_tree.specs.declared.operator.Listed.{Listed}
pub use Rattle.zf_tree.specs.declared.operator.Listed.TheVariants.{Display, Tuple, Product}
pub use Rattle.zf_tree.specs.declared.span.Span.{Span}
pub use Rattle.zf_reference.specs.declared.reference.Reference.{Reference}
pub use Rattle.zf_reference.specs.declared.reference.Reference.TheVariants.{Global, Component, Local}
