pub mod Names
pub mod NameViews
pub mod Trees
pub mod TreeViews
pub mod Operators
pub use Rattle.zf_tree.specs.Names.{spelling}
pub use Rattle.zf_tree.specs.NameViews.{Ident, ident_of, is_bare, name_at}
pub use Rattle.zf_tree.specs.Trees.{abbreviation, absent, binary, both, BoxTree, bracket, comprehension, chain, constant, DeclTree, definition, either, empty_set, free, given, include, link, Links, listed, named, no_decls, no_links, no_trees, numeral, ParagraphTree, Perhaps, present, quantified, schema_box, schema_bracket, schema_reference, schema_span, schema_text, SchemaTree, span_of, Tree, tree, unary, var_decl, VarDecls, vars, zed}
unfoldable pub use Rattle.zf_tree.specs.TreeViews.{link_of, schema_tree_of, tree_of, var_decl_of}
pub use Rattle.zf_tree.specs.TreeViews.{box_of, boxes_of, decl_of, decl_step, link_step, links, new_decl, new_link, paragraph_of, part_of, schema_step, tree_step, trees, var_decls}
pub use Rattle.zf_tree.specs.Operators.{function_rule, left_need, need_of, prefix_need, relation_rule, right_need, rule_of, sign_need}
