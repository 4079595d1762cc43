pub mod Prelude
pub mod Height
pub mod Spelling
pub mod Reading
pub mod TermReading
pub mod BoxReading
pub mod Nests
pub use Rattle.zf_grammar.specs.Height.{box_height, decl_height, decls_height, height_limit, highest, links_height, most, paragraph_height, perhaps_height, schema_height, tree_height, trees_height}
pub use Rattle.zf_grammar.specs.Spelling.{After, Before, Begins, Behind, Between, Closes, Ends, here, IsOver, last_link, last_tree, Next, Opens, over_links, PartedBy, parting, sign_kind, Spells, SpellsBox, SpellsBoxes, SpellsDecl, SpellsDecls, SpellsFurther, SpellsItems, SpellsLinks, SpellsMarked, SpellsName, SpellsNames, SpellsParagraph, SpellsPart, SpellsPredicates, SpellsRef, SpellsSchema, Starts, through}
unfoldable pub use Rattle.zf_grammar.specs.Reading.{parted, parted_from}
pub use Rattle.zf_grammar.specs.Reading.{Fault, first, is_end, name_by, opening_by, past, read_name, read_names, read_opening, Refused, rest, TooDeep}
unfoldable pub use Rattle.zf_grammar.specs.TermReading.{read_term, beginning, binary, braced, comprehension, chain_links, chained, climb, display, empty_set, further, items, items_from, links_from, listed, part, prefixed, quantified, round, whole}
pub use Rattle.zf_grammar.specs.TermReading.{beginning_by, begins_decl, beyond, binds, bound_by, closed_by, decls, ended_by, Fails, Gives, links_by, longer_by, over, over_both, parted_by, place_before, role_of, round_by, tall, with_item}
unfoldable pub use Rattle.zf_grammar.specs.BoxReading.{abbreviation, boxes_from, definition, free_type, given, inclusion, marked, named, predicates, read_all, read_box, read_boxes, read_only, read_paragraph, read_ref, read_schema, read_schema_box, read_zed, schema_text, variables, conjunction, disjunction, joined, schema_bracket, schema_part}
pub use Rattle.zf_grammar.specs.BoxReading.{box_by, is_and, is_declared, is_or, joining, named_by, new_ref, read_decls, ref_by, schema_part_by, SpellsUpTo}
pub use Rattle.zf_grammar.specs.Nests.{SchemaNests}
