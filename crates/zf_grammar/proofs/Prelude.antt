-- What the proofs of this crate take from elsewhere, passed on from one place.
pub use Rattle.std.proofs.Common.{◌++◌, ◌+◌, ◌-◌, ◌<◌, ◌∙◌, ◌∷◌, ◌≡◌, ◌≤◌, [], ap, append_assoc, arith, Bool, Err, false, inl, inr, length, List, map, max, None, Ok, Option, refl, slice_index_or, Some, subst, suc, sym, true, zero, ℕ, ⊎_elim, length-append}
pub use Rattle.std.proofs.lemmas.Bool.{cases_lt, le-leb, leb-false, leb-true, lt-leb}
pub use Rattle.std.proofs.lemmas.Grind.{common_steps}
pub use Rattle.std.proofs.lemmas.List.{append-nil, map-append}
pub use Rattle.std.specs.List.{AllByRecursion}
pub use Rattle.std.specs.Prelude.{if◌then◌else◌, ◌||◌, ◌⊎◌, nat_le}
pub use Rattle.zf_tree.specs.{both, box_of, BoxTree, bracket, chain, constant, decl_of, DeclTree, either, ident_of, include, is_bare, link, Links, named, new_link, no_links, no_trees, numeral, paragraph_of, ParagraphTree, part_of, schema_box, schema_reference, schema_span, schema_tree_of, span_of, SchemaTree, Tree, tree, tree_step, vars, zed, Perhaps, VarDecls, links, new_decl, no_decls, trees, var_decl, var_decls, absent, present}
pub use Rattle.zf_tree.specs.Trees.{Trees}
unfoldable pub use Rattle.zf_tree.specs.{link_of, tree_of, var_decl_of}
pub use Rattle.zf_tree.specs.declared.operator.Listed.{Listed}
pub use Rattle.zf_tree.specs.declared.operator.Operator.{Operator}
pub use Rattle.zf_tree.specs.declared.span.Span.{Span}
pub use Rattle.zf_tree.specs.declared.operator.Sign.{Sign}
pub use Rattle.zf_tree.specs.declared.operator.Unary.{Unary}
pub use Rattle.zf_tree.specs.declared.symbol.Connective.TheVariants.{And, Implies, Or}
pub use Rattle.zf_tree.specs.declared.symbol.Infix.TheVariants.{Maplet, Minus}
pub use Rattle.zf_tree.specs.declared.symbol.Quantifier.{Quantifier}
pub use Rattle.zf_tree.specs.declared.symbol.Relation.{Relation}
pub use Rattle.zf_tree.specs.declared.tree.Link.{Link}
pub use Rattle.zf_tree.specs.declared.tree.Name.{Name}
pub use Rattle.zf_tree.specs.declared.tree.RefMark.{RefMark}
pub use Rattle.zf_tree.specs.declared.tree.RefMark.TheVariants.{Delta, Plain, Xi}
pub use Rattle.zf_tree.specs.declared.tree.SchemaExp.{SchemaExp}
pub use Rattle.zf_tree.specs.declared.tree.Term.{Term}
pub use Rattle.zf_tree.specs.declared.tree.VarDecl.{VarDecl}
pub use Rattle.zf_tree.specs.declared.tree.ZBox.{ZBox}
pub use Rattle.zf_scan.specs.{ends_box, is_mark, kind_at, next_of, separator, Symbol, symbol, token_at}
pub use Rattle.zf_scan.specs.declared.next.Mark.{Mark}
pub use Rattle.zf_scan.specs.declared.placed.Placed.{Placed}
pub use Rattle.zf_scan.specs.declared.token.Kind.{Kind}
pub use Rattle.zf_levels.specs.{AreAt, AreEnough, AreTwo, atom_level, BoxIsLevelled, chain_level, DeclIsLevelled, DeclsAreLevelled, expression_level, infix_level, IsAt, IsLevelled, left_place, level, LinksAreLevelled, listed_level, member_place, negation_level, operator_level, ParagraphIsLevelled, PartIsAt, postfix_level, priority, product_level, quantifier_level, right_place, schema_level, SchemaIsLevelled, sign_level, unary_level}
pub use Rattle.zf_grammar.specs.{After, Before, Begins, begins_decl, Behind, Between, beyond, binds, bound_by, box_by, box_height, chain_links, Closes, decl_height, decls, decls_height, Ends, Fault, first, here, highest, is_and, is_end, is_or, IsOver, joining, last_link, last_tree, links_by, links_height, longer_by, most, name_by, Next, opening_by, Opens, over_links, paragraph_height, PartedBy, parting, perhaps_height, place_before, predicates, read_decls, read_name, read_names, read_opening, read_paragraph, read_ref, Refused, rest, role_of, schema_height, schema_part_by, sign_kind, Spells, SpellsBox, SpellsBoxes, SpellsDecl, SpellsDecls, SpellsFurther, SpellsItems, SpellsLinks, SpellsMarked, SpellsName, SpellsNames, SpellsParagraph, SpellsPart, SpellsPredicates, SpellsRef, SpellsSchema, SpellsUpTo, Starts, tall, through, TooDeep, tree_height, trees_height, with_item}
unfoldable pub use Rattle.zf_grammar.specs.{boxes_from, climb, conjunction, disjunction, further, items, items_from, joined, links_from, part, parted, parted_from, read_all, read_box, read_boxes, read_schema, read_schema_box, read_term, read_zed, schema_bracket, schema_part, schema_text, whole}
pub use Rattle.zf_grammar.specs.Reading.{and_then, expect, Outcome, Parser}
unfoldable pub use Rattle.zf_grammar.specs.TermReading.{read_decl}
pub use Rattle.zf_grammar.specs.declared.role.Role.{Role}
pub use Rattle.zf_grammar.specs.declared.tall.Tall.{Tall}
