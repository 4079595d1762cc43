-- What the definitions of this crate and its contracts take from elsewhere, passed on from one place.
pub use Rattle.zf_scan.specs.declared.next.Mark.{Mark}
pub use Rattle.zf_scan.specs.declared.next.Next.{Next}
pub use Rattle.zf_tree.specs.declared.symbol.Connective.TheVariants.{And, Or}
pub use Rattle.zf_tree.specs.declared.tree.Name.{Name}
pub use Rattle.zf_tree.specs.declared.tree.Term.{Term}
pub use Rattle.zf_tree.specs.declared.tree.RefMark.TheVariants.{Plain, Delta, Xi}
pub use Rattle.zf_tree.specs.declared.tree.RefMark.{RefMark}
pub use Rattle.zf_tree.specs.declared.tree.SchemaRef.{SchemaRef}
pub use Rattle.zf_tree.specs.declared.tree.SchemaExp.{SchemaExp}
pub use Rattle.zf_levels.specs.{quantifier_level, expression_level, chain_level, product_level, postfix_level, unary_level, operator_level, left_place, right_place, member_place, level}
pub use Rattle.zf_tree.specs.{BoxTree, is_bare, abbreviation, absent, binary, both, bracket, comprehension, chain, DeclTree, definition, either, empty_set, include, link, Links, listed, no_decls, no_links, no_trees, ParagraphTree, Perhaps, present, quantified, schema_box, schema_bracket, schema_reference, schema_text, SchemaTree, Tree, tree, unary, var_decl, VarDecls, vars, zed, constant, free, given, named, numeral, schema_span, schema_tree_of, span_of, trees, links, link_of, ident_of, new_decl, new_link, tree_of}
pub use Rattle.zf_scan.specs.{is_mark, Symbol, next_of, separator, symbol, ends_names, goes_on, nowhere, token_at}
pub use Rattle.zf_tree.specs.Trees.{Trees}
pub use Rattle.zf_scan.specs.declared.fault.TextFault.{TextFault}
pub use Rattle.zf_scan.specs.declared.token.Kind.{Kind}
pub use Rattle.zf_tree.specs.declared.symbol.Infix.TheVariants.{Minus}
pub use Rattle.zf_tree.specs.declared.span.Span.{Span}
pub use Rattle.zf_tree.specs.declared.operator.Listed.{Listed}
pub use Rattle.zf_tree.specs.declared.operator.Operator.{Operator}
pub use Rattle.zf_tree.specs.declared.operator.Unary.{Unary}
pub use Rattle.zf_scan.specs.declared.fault.TextFaultKind.TheVariants.{Unexpected, TooDeep}
