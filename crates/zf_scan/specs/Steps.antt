-- The piece at the front of a text, step by step. No public clause rests on this.
use Rattle.std.specs.Prelude.{ℕ, ◌+◌, Bool, ◌||◌, not, ◌==◌, nat_eq, min, if◌then◌else◌, List, [], ◌∷◌, length, take, drop, codes, Option, Some, None}
use Rattle.std.specs.List.{starts_with}
use Rattle.std.specs.Option.{is_some}
use Rattle.zf_scan.specs.declared.fault.TextFaultKind.{TextFaultKind}
use Rattle.zf_scan.specs.declared.fault.TextFaultKind.TheVariants as faults
use Rattle.zf_scan.specs.declared.token.Kind.TheVariants.{BeginZed, BeginSchema, EndBox, Name}
use Rattle.zf_scan.specs.declared.pieces.Piece.{Piece}
use Rattle.zf_scan.specs.declared.pieces.Piece.TheVariants.{Plain, Symbol, Refused}
use Rattle.zf_scan.specs.declared.pieces.Region.{Region}
use Rattle.zf_scan.specs.declared.pieces.Region.TheVariants.{Outside, Zed, Schema}
use Rattle.zf_scan.specs.declared.pieces.Run.{Run}
use Rattle.zf_scan.specs.declared.pieces.Run.TheVariants.{Letters, Digits, Base, Strokes, Line}
use Rattle.zf_scan.specs.Pieces.{is_one, is_two, is_letter, look_up, symbols, comment, number_piece}
use Rattle.std.specs.Char.{is_ascii_digit}

-- ---- runs

abbrev pub step_len : Run → List ℕ → ℕ
step_len run [] = 0
step_len run (b ∷ []) = if is_one run b then 1 else 0
step_len run (b ∷ c ∷ bs) = if is_one run b then 1 else (if is_two run b c then 2 else 0)

abbrev pub run_len : Run → List ℕ → ℕ
run_len run [] = 0
run_len run (b ∷ []) = if is_one run b then 1 else 0
run_len run (b ∷ c ∷ bs) = if is_one run b then 1 + run_len run (c ∷ bs) else (if is_two run b c then 2 + run_len run bs else 0)

abbrev pub begins : List ℕ → List ℕ → Bool
begins s front = starts_with nat_eq s front

-- ---- inside a box

-- a piece that begins a text, by its length
pub record Match : Type 0 where
  pub piece : Piece
  pub len : ℕ

abbrev pub found : Piece → ℕ → Match
found piece len = record { piece = piece; len = len }

-- the piece of the longer text, or what else is found
abbrev pub or_else : Option Piece → ℕ → Match → Match
or_else None len other = other
or_else (Some piece) len other = found piece len

abbrev pub comment_len : List ℕ → ℕ
comment_len s = 1 + run_len Line (drop 1 s)

unfoldable pub comment_found : List ℕ → Match
comment_found s = found (comment (take (comment_len s) s)) (comment_len s)

abbrev pub command_len : List ℕ → ℕ
command_len s = if run_len Letters (drop 1 s) == 0 then min (length s) 2 else 1 + run_len Letters (drop 1 s)

abbrev pub tail_len : List ℕ → ℕ
tail_len s = if begins s (codes "_1") then 2 else step_len Digits s

unfoldable pub short_command : List ℕ → ℕ → Match
short_command s len = or_else (look_up (take len s) symbols) len (found (Refused faults.UnknownCommand) len)

abbrev pub long_len : List ℕ → ℕ
long_len s = command_len s + tail_len (drop (command_len s) s)

unfoldable pub command_found : List ℕ → List ℕ → Match
command_found end s =
    if begins s end then found (Symbol EndBox) (length end)
    else or_else (look_up (take (long_len s) s) symbols) (long_len s) (short_command s (command_len s))

abbrev pub base_len : List ℕ → ℕ
base_len [] = 0
base_len (b ∷ bs) = if is_letter b then 1 + run_len Base bs else 0

abbrev pub strokes_len : List ℕ → ℕ
strokes_len s = run_len Strokes (drop (base_len s) s)

abbrev pub word_len : List ℕ → ℕ
word_len s = base_len s + strokes_len s

unfoldable pub word_found : List ℕ → Match
word_found s =
    or_else (look_up (take (word_len s) s) symbols) (word_len s) (found (Symbol (Name (take (base_len s) s) (take (strokes_len s) (drop (base_len s) s))))
    (word_len s))

unfoldable pub number_found : List ℕ → Match
number_found s = found (number_piece (take (run_len Digits s) s)) (run_len Digits s)

abbrev pub symbol_len : List ℕ → ℕ
symbol_len s = if begins s (codes "::=") then 3 else (if begins s (codes "==") then 2 else 1)

unfoldable pub symbol_found : List ℕ → Match
symbol_found s = or_else (look_up (take (symbol_len s) s) symbols) (symbol_len s) (found (Refused faults.BadByte) (symbol_len s))

unfoldable pub inside_found : List ℕ → List ℕ → Match
inside_found end [] = found (Refused faults.UnclosedBox) 0
inside_found end (b ∷ bs) =
    if b == 37 then comment_found (b ∷ bs)
    else (if b == 92 then command_found end (b ∷ bs)
    else (if is_letter b then word_found (b ∷ bs)
    else (if is_ascii_digit b then number_found (b ∷ bs) else symbol_found (b ∷ bs))))

-- ---- outside

abbrev pub plain : ℕ → Match
plain len = found Plain len

abbrev pub refused : TextFaultKind → ℕ → Match
refused kind len = found (Refused kind) len

unfoldable pub other_opening_found : List ℕ → Match
other_opening_found s =
    if begins s (codes "\\begin{zed}") then found (Symbol BeginZed) 11
    else (if begins s (codes "\\begin{schema}") then refused faults.BadByte 14
    else (if begins s (codes "\\begin{axdef}") then refused faults.NotInProfile 13
    else (if begins s (codes "\\begin{gendef}") then refused faults.NotInProfile 14
    else (if begins s (codes "\\begin{syntax}") then refused faults.NotInProfile 14 else plain 2))))

abbrev pub has_no_name : List ℕ → Bool
has_no_name t = base_len t == 0 || (not (begins (drop (base_len t) t) (codes "}")) || is_some (look_up (take (base_len t) t) symbols))

unfoldable pub schema_found : List ℕ → Match
schema_found s =
    if has_no_name (drop 15 s) then refused faults.BadByte 14
    else found (Symbol (BeginSchema (take (base_len (drop 15 s)) (drop 15 s)))) (16 + base_len (drop 15 s))

unfoldable pub opening_found : List ℕ → Match
opening_found s =
    if not (begins s (codes "\\begin{")) then plain (min (length s) 2)
    else (if begins s (codes "\\begin{schema}{") then schema_found s else other_opening_found s)

unfoldable pub outside_found : List ℕ → Match
outside_found [] = plain 0
outside_found (b ∷ bs) = if b == 92 then opening_found (b ∷ bs) else (if b == 37 then comment_found (b ∷ bs) else plain 1)

abbrev pub closing : Region → List ℕ
closing Outside = []
closing (Zed span) = codes "\\end{zed}"
closing (Schema span) = codes "\\end{schema}"

unfoldable pub found_at : Region → List ℕ → Match
found_at Outside s = outside_found s
found_at (Zed span) s = inside_found (codes "\\end{zed}") s
found_at (Schema span) s = inside_found (codes "\\end{schema}") s
