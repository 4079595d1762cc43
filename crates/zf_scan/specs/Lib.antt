pub mod Pieces
pub mod Cuts
pub mod CutViews
pub mod CutLaws
pub mod Separators
pub mod Steps
pub mod Lexemes
pub mod Placing
pub mod Laying
pub mod Choosing
pub mod Boxes
unfoldable pub use Rattle.zf_scan.specs.Pieces.{openings, symbols}
pub use Rattle.zf_scan.specs.Pieces.{comment, digits, escape, fixed, informal, InsideKind, is_base, is_directive, is_letter, is_number, is_one, is_run, is_two, IsCommand, IsComment, look_up, name, number_max, number_piece, opening, OutsideKind, remark, schema_opening, SpellsInside, SpellsOutside, turn, unknown, value}
pub use Rattle.zf_scan.specs.Cuts.{entered, Fails, from_to, HasFault, IsCutInto, IsRead, IsStuck, nowhere, past, reported, span_at, Spot, Stands, StandsInside, StandsOutside, start, tokens_from, tokens_of}
pub use Rattle.zf_scan.specs.CutViews.{IsUncut, IsWantOfMemory}
pub use Rattle.zf_scan.specs.CutLaws.{FaultsOnce, IsCutOnce, IsCutOrFaults, IsNotBoth}
pub use Rattle.zf_scan.specs.Separators.{canonical, closes, is_separator, opens, reduced, reduced_after, separator, starts_closed, Symbol, symbol, symbol_of}
unfoldable pub use Rattle.zf_scan.specs.Steps.{command_found, comment_found, found_at, inside_found, number_found, opening_found, other_opening_found, outside_found, schema_found, short_command, symbol_found, word_found}
pub use Rattle.zf_scan.specs.Steps.{base_len, begins, command_len, Match, found, has_no_name, long_len, or_else, plain, run_len, step_len, strokes_len, symbol_len, tail_len, word_len}
pub use Rattle.zf_scan.specs.Lexemes.{kind_of, listed_in, opening_len, piece_of, seen, match_of}
pub use Rattle.zf_scan.specs.Placing.{between, kind_at, token_at}
pub use Rattle.zf_scan.specs.Laying.{amount, AreWithin, IsLaid, spelling}
pub use Rattle.zf_scan.specs.Choosing.{ends_names, goes_on, is_mark, next_of}
pub use Rattle.zf_scan.specs.Boxes.{Before, begins_box, BeginsBox, ends_box, EndsOnce, Follows, IsBorder, IsBox, IsBoxAtMost, IsCutOn, IsCutUpTo}
