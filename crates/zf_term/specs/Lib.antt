pub mod Types
pub mod TypeViews
pub mod TypeTexts
pub mod Faults
pub mod ResolvedTrees
pub mod ResolvedViews
pub mod Shapes
pub mod ShapeViews
pub mod Schemas
pub mod SchemaViews
pub mod SetShapes
pub mod SetShapeViews
pub mod Limits
pub mod LimitViews
pub mod Definitions
pub mod DefinitionViews
pub mod References
pub mod Numbers
pub mod FirstNamed
pub mod Likeness
pub mod FoundViews
pub mod TermLaws
pub use Rattle.zf_term.specs.Types.{basic, has_numbers, have_numbers, int, IsSmall, no_types, nodes_of_all, pair_type, power, product, Ty, type, type_nodes, type_nodes_max, types, Tys}
unfoldable pub use Rattle.zf_term.specs.TypeViews.{type_of}
pub use Rattle.zf_term.specs.TypeViews.{type_step}
pub use Rattle.zf_term.specs.TypeTexts.{later_parts_text, parts_text, type_text}
pub use Rattle.zf_term.specs.Faults.{a_schema, already_defined, clash, Fault, kind_of, lack, lack_of, local_twice, mismatch, misplaced, no_members, not_a_schema, not_declared, Offence, predicate, Sort, too_large, typed, unfit, untyped_lack}
pub use Rattle.zf_term.specs.ResolvedTrees.{absent, binary, bracket, comprehension, chain, constant, empty_set, link, listed, no_links, no_ranges, no_terms, number, present, quantified, range, Ranges, reference, ResolvedLinks, ResolvedPart, ResolvedTree, term, unary}
unfoldable pub use Rattle.zf_term.specs.ResolvedViews.{range_of, resolved_link_of, resolved_of}
pub use Rattle.zf_term.specs.ResolvedViews.{links, part_of, range_step, ranges, resolved_link_step, resolved_step, terms}
pub use Rattle.zf_term.specs.Shapes.{all_moved, conjuncts, height, is_and, is_conjunction, links_moved, moved, nodes, part_moved, ranges_moved, term_span}
pub use Rattle.zf_term.specs.ShapeViews.{all_nodes, link_nodes, numbering, part_height, part_nodes, range_nodes, tallest, tallest_link, tallest_range}
pub use Rattle.zf_term.specs.Schemas.{all_joined, both_hold, carrier, Comp, DeclaredSet, DeclaredSets, from_to, is_member, joined, no_sets, one_holds, plain, Schema, set, sets_of, sides, sides_span}
unfoldable pub use Rattle.zf_term.specs.SchemaViews.{batch_of, conjunct_of, set_of}
pub use Rattle.zf_term.specs.SchemaViews.{batch_step, comp_of, conjunct_step, domain_step, schema_of}
pub use Rattle.zf_term.specs.SetShapes.{set_count, set_nodes}
pub use Rattle.zf_term.specs.SetShapeViews.{all_set_counts, all_set_nodes}
pub use Rattle.zf_term.specs.Limits.{AreFew, components_max, conjuncts_max, declared_sets, height_max, IsLow, IsTooLarge, IsWithin, KeepsTo, nodes_max, schema_nodes, sets_max}
pub use Rattle.zf_term.specs.LimitViews.{HasLeft}
pub use Rattle.zf_term.specs.Definitions.{abbreviation, constructor, Defined, Definition, free_type, given_set, schema}
pub use Rattle.zf_term.specs.DefinitionViews.{definition_of, entry_of, globals_of}
pub use Rattle.zf_term.specs.References.{all_onto, links_onto, onto, part_onto, ranges_onto, references}
pub use Rattle.zf_term.specs.Numbers.{has_elements, next_number}
pub use Rattle.zf_term.specs.FirstNamed.{first_named, later}
pub use Rattle.zf_term.specs.Likeness.{differ_by_one, is_like, up_to_stroke, without_strokes}
pub use Rattle.zf_term.specs.FoundViews.{found_as}
pub use Rattle.zf_term.specs.TermLaws.{ComponentsAloneNumbered, MovedKeepsVariables}
