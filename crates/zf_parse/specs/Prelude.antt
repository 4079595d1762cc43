-- What the definitions of this crate and its contracts take from elsewhere, passed on from one place.
pub use Rattle.std.specs.List.{AllByRecursion}
pub use Rattle.zf_scan.specs.declared.fault.TextFaultKind.{TextFaultKind}
pub use Rattle.zf_scan.specs.declared.fault.TextFaultKind.TheVariants.{Unexpected, NotInProfile, TooDeep, OutOfMemory}
pub use Rattle.zf_scan.specs.declared.token.Token.{Token}
pub use Rattle.zf_scan.specs.{IsCutUpTo, reduced, Symbol, HasFault, IsCutInto, IsWantOfMemory, IsBorder, IsBoxAtMost, IsCutOn, IsStuck, nowhere, starts_closed, token_at}
pub use Rattle.zf_grammar.specs.{box_height, highest, height_limit, SpellsBox, SpellsBoxes, SpellsUpTo}
pub use Rattle.zf_levels.specs.{BoxIsLevelled}
pub use Rattle.zf_tree.specs.{box_of, BoxTree, boxes_of}
pub use Rattle.zf_scan.specs.declared.fault.TextFault.{TextFault}
pub use Rattle.zf_tree.specs.declared.span.Span.{Span}
