-- What the proofs of this crate take from elsewhere, passed on from one place.
pub use Rattle.std.proofs.Common.{◌++◌, ◌+◌, ◌-◌, ◌<◌, ◌∙◌, ◌∷◌, ◌≡◌, ◌≤◌, [], add-one, ap, append_assoc, arith, Bool, drop, drop-cons, Err, false, get_or, inl, inr, length, length-drop, List, map, max, Ok, refl, rules, subst, suc, sym, take, true, ℕ}
pub use Rattle.std.proofs.lemmas.List.{append-nil, append_cancel_right, drop-set-lt, length-set, map-append, take_more_set}
pub use Rattle.std.specs.List.{AllByRecursion}
pub use Rattle.std.specs.Prelude.{if◌then◌else◌, ◌==◌, ◌||◌, ◌⊎◌}
pub use Rattle.zf_tree.specs.{box_of, BoxTree, DeclTree, include, ParagraphTree, schema_box, schema_reference, SchemaTree, Tree, vars, zed}
pub use Rattle.zf_tree.specs.declared.symbol.Connective.TheVariants.{And, Or}
pub use Rattle.zf_tree.specs.declared.tree.Name.{Name}
pub use Rattle.zf_tree.specs.declared.tree.RefMark.{RefMark}
pub use Rattle.zf_tree.specs.declared.tree.RefMark.TheVariants.{Delta, Plain, Xi}
pub use Rattle.zf_tree.specs.declared.tree.ZBox.{ZBox}
pub use Rattle.zf_scan.specs.{begins_box, BeginsBox, canonical, closes, ends_box, Follows, is_separator, IsBoxAtMost, IsCutInto, IsCutOn, IsCutUpTo, IsWantOfMemory, kind_at, opens, reduced, reduced_after, separator, starts_closed, Symbol, symbol, symbol_of, token_at}
pub use Rattle.zf_scan.specs.declared.fault.TextFaultKind.{TextFaultKind}
pub use Rattle.zf_scan.specs.declared.placed.Placed.{Placed}
pub use Rattle.zf_scan.specs.declared.token.Kind.{Kind}
pub use Rattle.zf_scan.specs.declared.token.Token.{Token}
pub use Rattle.zf_tree.specs.declared.span.Span.{Span}
pub use Rattle.zf_levels.specs.{BoxIsLevelled}
pub use Rattle.zf_grammar.specs.{box_height, Fails, first, height_limit, highest, here, is_end, Next, PartedBy, Refused, Spells, SpellsBox, SpellsBoxes, SpellsDecl, SpellsMarked, SpellsName, SpellsParagraph, SpellsPredicates, SpellsSchema, SpellsUpTo, through, TooDeep}
pub use Rattle.zf_parse.specs.{AreSoFar, Later, ReadsBox, ReadsLow, ReadsSource, ReadsUpTo, RefusesBox, RefusesSource, RefusesTokens, Parses}
unfoldable pub use Rattle.zf_grammar.specs.{read_all, read_box, read_only}
pub use Rattle.zf_parse.specs.Reads.{Reads}
