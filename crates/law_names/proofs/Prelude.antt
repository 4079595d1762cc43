-- What the proofs of this crate take from elsewhere, passed on from one place.
pub use Rattle.std.proofs.Common.{◌++◌, ◌+◌, ◌<◌, ◌^◌, ◌∙◌, ◌∷◌, ◌≡◌, ◌≤◌, ◌⊎◌, [], ap, append_assoc, arith, Bool, drop, drop-cons, false, inl, inr, length, length-append, List, map, None, Option, refl, slice_get, Some, subst, suc, sym, take, true, zero, ℕ}
pub use Rattle.std.proofs.lemmas.Option.{none-some, same_Some}
pub use Rattle.std.specs.List.{list_all, AllByRecursion}
pub use Rattle.std.specs.Prelude.{if◌then◌else◌, ◌&&◌, ◌==◌, ◌||◌, codes, nat_le}
pub use Rattle.std.specs.Str.{bytes_eq}
pub use Rattle.zf_tree.specs.{BoxTree, DeclTree, free, given, include, ParagraphTree, schema_reference, SchemaTree, spelling, Tree, vars}
pub use Rattle.zf_tree.specs.declared.span.Span.{Span}
pub use Rattle.zf_tree.specs.declared.tree.Name.{Name}
pub use Rattle.zf_scan.proofs.Runs.{and_left, and_right}
pub use Rattle.zf_scan.proofs.Texts.{both, eq_is, pick}
pub use Rattle.zf_scan.specs.{canonical, is_separator, IsCutInto, opens, past, reduced, reduced_after, separator, Spot, Stands, start, starts_closed, Symbol, symbol, symbol_of, tokens_from, tokens_of, is_base, is_letter, is_one, is_run, is_two}
pub use Rattle.zf_scan.specs.Cuts.{Cuts}
pub use Rattle.zf_scan.specs.declared.pieces.Piece.{Piece}
pub use Rattle.zf_scan.specs.declared.token.Kind.{Kind}
pub use Rattle.zf_grammar.specs.{Begins, Ends, Next, PartedBy, Spells, SpellsBoxes, SpellsDecl, SpellsMarked, SpellsName, SpellsParagraph, SpellsPredicates, SpellsSchema}
pub use Rattle.zf_parse.specs.{ReadsSource}
pub use Rattle.zf_term.specs.{abbreviation, constructor, Defined, Definition, free_type, given_set, schema, Comp, DeclaredSet, Fault, Schema, Ty, first_named, later, plain}
pub use Rattle.zf_schema.specs.{a_box, a_paragraph, Constructs, Item, items, items_in, with_global, HasCompsOnce, elements}
pub use Rattle.zf_print.specs.{AreApart, AreNames, is_in_name, IsClear, IsName, IsNoneOf, spellings, with_spelling}
pub use Rattle.std.proofs.lemmas.List.Folds.{list_all-append}
pub use Rattle.zf_calculus.specs.{AreOnce, comp, comp_named, decorated, either_comps, empty_schema, marked, prime, with_comp, with_comps}
pub use Rattle.zf_term.proofs.SameNames.{is_itself}
pub use Rattle.zf_tree.specs.declared.symbol.Connective.TheVariants.{And, Or}
pub use Rattle.zf_tree.specs.declared.tree.RefMark.{RefMark}
pub use Rattle.zf_tree.specs.declared.tree.RefMark.TheVariants.{Delta, Plain, Xi}
