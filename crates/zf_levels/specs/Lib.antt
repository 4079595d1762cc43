pub mod Levels
pub use Rattle.zf_levels.specs.Levels.{AreAt, AreEnough, AreTwo, atom_level, BoxIsLevelled, chain_level, DeclIsLevelled, DeclsAreLevelled, expression_level, infix_level, IsAt, IsLevelled, left_place, level, LinksAreLevelled, listed_level, member_place, negation_level, operator_level, ParagraphIsLevelled, PartIsAt, postfix_level, priority, product_level, quantifier_level, right_place, schema_level, SchemaIsLevelled, sign_level, unary_level}
