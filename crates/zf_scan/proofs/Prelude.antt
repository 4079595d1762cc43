-- What the proofs of this crate take from elsewhere, passed on from one place.
pub use Rattle.std.proofs.Common.{◌*◌, ◌++◌, ◌+◌, ◌-◌, ◌/◌, ◌<◌, ◌∙◌, ◌∷◌, ◌≡◌, ◌≤◌, ◌⊎◌, [], ap, append_assoc, ap₂, arith, Bool, drop, false, get_or, inl, inr, length, length-append, length-drop, length-take-le, List, map, min, None, Option, refl, rules, slice_index_or, Some, subst, suc, sym, take, take-append-drop, true, unwrap_or, zero, zero-add, ℕ, ⊎_elim}
pub use Rattle.std.proofs.Math.Numerals.{one-add}
pub use Rattle.std.proofs.Math.Seq.{drop-append_seam, take-add, take-append_seam}
pub use Rattle.std.proofs.lemmas.Bool.Decides.{Decides-eqb, nat_tests}
pub use Rattle.std.proofs.lemmas.List.{append-nil, drop-append-le, drop-drop, drop-take, get_or-take, map-append, take-append-le, take_all, take_more}
pub use Rattle.std.proofs.lemmas.Slice.Eq.{bytes_eq-Decides, starts_is}
pub use Rattle.std.specs.Cmp.Lexicographic.{bytes_decides}
pub use Rattle.std.specs.List.{fold, list_all, starts_with}
pub use Rattle.std.specs.Prelude.{if◌then◌else◌, ◌&&◌, ◌==◌, ◌||◌, codes, nat_eq, nat_le, not}
pub use Rattle.std.specs.Str.{bytes_eq}
pub use Rattle.zf_scan.specs.{amount, AreWithin, base_len, Before, begins, begins_box, BeginsBox, between, command_len, comment, digits, ends_box, EndsOnce, entered, escape, Fails, FaultsOnce, fixed, Follows, Match, found, from_to, has_no_name, HasFault, informal, InsideKind, is_base, is_directive, is_letter, is_number, is_one, is_run, is_two, IsBox, IsBoxAtMost, IsCommand, IsComment, IsCutInto, IsCutOn, IsCutOnce, IsCutOrFaults, IsCutUpTo, IsLaid, IsNotBoth, IsRead, IsStuck, IsUncut, IsWantOfMemory, kind_of, listed_in, long_len, look_up, name, next_of, nowhere, number_max, number_piece, opening, or_else, OutsideKind, past, piece_of, plain, remark, reported, run_len, schema_opening, seen, spelling, SpellsInside, SpellsOutside, span_at, Spot, Stands, StandsInside, StandsOutside, start, step_len, strokes_len, symbol_len, tail_len, token_at, tokens_from, tokens_of, match_of, turn, unknown, value, word_len, symbol}
pub use Rattle.zf_scan.specs.Cuts.{Cuts}
pub use Rattle.zf_scan.specs.Pieces.{closing}
pub use Rattle.std.specs.Char.{is_ascii_digit}
unfoldable pub use Rattle.zf_scan.specs.{command_found, comment_found, found_at, inside_found, number_found, opening_found, openings, other_opening_found, outside_found, schema_found, short_command, symbol_found, symbols, word_found}
pub use Rattle.zf_scan.specs.declared.fault.TextFault.{TextFault}
pub use Rattle.zf_scan.specs.declared.fault.TextFaultKind.{TextFaultKind}
pub use Rattle.zf_scan.specs.declared.fault.TextFaultKind.TheVariants.{BadByte, NotInProfile, TooLong, UnclosedBox}
pub use Rattle.zf_scan.specs.declared.next.Next.{Next}
pub use Rattle.zf_scan.specs.declared.pieces.Piece.{Piece}
pub use Rattle.zf_scan.specs.declared.pieces.Piece.TheVariants.{Plain, Refused, Symbol}
pub use Rattle.zf_scan.specs.declared.pieces.Region.{Region}
pub use Rattle.zf_scan.specs.declared.pieces.Run.{Run}
pub use Rattle.zf_scan.specs.declared.pieces.Run.TheVariants.{Base, Digits, Letters, Line, Strokes}
pub use Rattle.zf_scan.specs.declared.placed.Placed.{Placed}
pub use Rattle.zf_scan.specs.declared.scan.Border.{Border}
pub use Rattle.zf_scan.specs.declared.scan.TheConstants.{SOURCE_MAX}
pub use Rattle.zf_scan.specs.declared.token.Kind.{Kind}
pub use Rattle.zf_scan.specs.declared.token.Kind.TheVariants.{BeginSchema, BeginZed, CloseBrace, EndBox, Name, OpenBrace, Separator}
pub use Rattle.zf_scan.specs.declared.token.Token.{Token}
pub use Rattle.zf_tree.specs.declared.span.Span.{Span}
pub use Rattle.zf_scan.specs.declared.pieces.Region.TheVariants.{Outside, Zed, Schema}
