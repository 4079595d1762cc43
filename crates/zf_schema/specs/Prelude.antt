-- What the definitions of this crate and its contracts take from elsewhere, passed on from one place.
pub use Rattle.zf_tree.specs.declared.tree.Name.{Name}
pub use Rattle.zf_tree.specs.{BoxTree, DeclTree, definition, free, given, ParagraphTree, schema_box, spelling, Tree, zed, both, either, include, schema_bracket, schema_reference, schema_span, schema_text, SchemaTree, vars, decl_of, paragraph_of, schema_tree_of, tree_of}
pub use Rattle.zf_term.specs.{abbreviation, already_defined, constructor, Defined, Definition, Fault, first_named, free_type, given_set, Offence, ResolvedTree, Schema, schema, Ty, conjuncts, DeclaredSet, plain, clash, Comp, IsTooLarge, not_a_schema, not_declared, term_span, too_large, type_of, chain, link, no_links, reference, sets_of, sides, sides_span, from_to, globals_of, schema_of, definition_of, next_number, comp_of, resolved_of}
pub use Rattle.zf_typing.specs.{IsOf, Offends, resolved, Scope, scope_of}
pub use Rattle.zf_sorts.specs.{typed, predicate, set_sort, IsRefusal, IfFault, offence_of}
pub use Rattle.zf_tree.specs.declared.tree.SchemaRef.{SchemaRef}
pub use Rattle.zf_tree.specs.declared.span.Span.{Span}
pub use Rattle.zf_calculus.specs.{Adds, Agree, comp, conjoined, decorated, disjoined, empty_schema, Includes, IsNext, MarkAgrees, marked, schema_with, Agrees, Clashes, constrained, grown, OneClashes, Stops, all_unchanged, AreOnce, comp_named, delta, EachOnce, new_place, prime, sets_on, with_comps, xi, MarkClashes, with_comp}
