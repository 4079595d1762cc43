-- What the scanner keeps of a piece, and the piece that it is kept of. Only clauses of what the parser calls rest on this file.
use denote.Bor.{Bor}
use Rattle.std.specs.Prelude.{ℕ, List, [], ◌∷◌, ◌++◌, if◌then◌else◌, take, drop, Option, Some, None}
use Rattle.std.specs.Str.{bytes_eq}
use Rattle.zf_scan.specs.declared.next.Next.{Next}
use Rattle.zf_scan.specs.declared.next.Next.TheVariants as next
use Rattle.zf_scan.specs.declared.pieces.Match.{Match}
use Rattle.zf_scan.specs.declared.pieces.Piece.{Piece}
use Rattle.zf_scan.specs.declared.pieces.Piece.TheVariants.{Plain, Symbol, Refused}
use Rattle.zf_scan.specs.declared.pieces.Lexeme.{Lexeme}
use Rattle.zf_scan.specs.declared.pieces.Lexeme.TheVariants as lexeme
use Rattle.zf_scan.specs.declared.token.Kind.{Kind}
use Rattle.zf_scan.specs.declared.token.Kind.TheVariants as k
use Rattle.zf_scan.specs.Steps as steps

-- `\begin{schema}{`
abbrev pub opening_len : ℕ
opening_len = 15

-- the symbol of this spelling; the amount is the length of a name without strokes, or a number's value
abbrev pub kind_of : Next → ℕ → List ℕ → Kind
kind_of next.End amount text = k.EndBox
kind_of next.BeginZed amount text = k.BeginZed
kind_of next.BeginSchema amount text = k.BeginSchema (take amount (drop opening_len text))
kind_of next.EndBox amount text = k.EndBox
kind_of next.Name amount text = k.Name (take amount text) (drop amount text)
kind_of next.Number amount text = k.Number amount
kind_of (next.Separator s) amount text = k.Separator s
kind_of next.OpenRound amount text = k.OpenRound
kind_of next.CloseRound amount text = k.CloseRound
kind_of next.OpenSquare amount text = k.OpenSquare
kind_of next.CloseSquare amount text = k.CloseSquare
kind_of next.OpenBrace amount text = k.OpenBrace
kind_of next.CloseBrace amount text = k.CloseBrace
kind_of next.OpenImage amount text = k.OpenImage
kind_of next.CloseImage amount text = k.CloseImage
kind_of next.Comma amount text = k.Comma
kind_of next.Colon amount text = k.Colon
kind_of next.Bar amount text = k.Bar
kind_of next.At amount text = k.At
kind_of next.Abbreviates amount text = k.Abbreviates
kind_of next.FreeType amount text = k.FreeType
kind_of next.Defines amount text = k.Defines
kind_of next.Where amount text = k.Where
kind_of (next.Infix op) amount text = k.Infix op
kind_of (next.Arrow a) amount text = k.Arrow a
kind_of next.Cross amount text = k.Cross
kind_of (next.Prefix s) amount text = k.Prefix s
kind_of next.Inverse amount text = k.Inverse
kind_of (next.Constant c) amount text = k.Constant c
kind_of next.EmptySet amount text = k.EmptySet
kind_of (next.Relation r) amount text = k.Relation r
kind_of next.Not amount text = k.Not
kind_of (next.Connective c) amount text = k.Connective c
kind_of (next.Quantifier q) amount text = k.Quantifier q
kind_of next.Delta amount text = k.Delta
kind_of next.Xi amount text = k.Xi

abbrev pub piece_of : Lexeme → ℕ → List ℕ → Piece
piece_of lexeme.Plain amount text = Plain
piece_of (lexeme.Symbol next) amount text = Symbol (kind_of next amount text)
piece_of (lexeme.Refused kind) amount text = Refused kind

-- what a spelling is seen as
abbrev pub seen : List ℕ → Option Lexeme → Option Piece
seen text None = None
seen text (Some lexeme) = Some (piece_of lexeme 0 text)

-- the piece of the row whose text stands after the front that the rows are for
abbrev pub listed_in : List ℕ → List ℕ → List (Bor (List ℕ) × Lexeme) → Option Piece
listed_in front text [] = None
listed_in front text (row ∷ rows) = if bytes_eq text row.0.now then Some (piece_of row.1 0 (front ++ text)) else listed_in front text rows

-- what was found at the front of a text
abbrev pub match_of : List ℕ → Match → steps.Match
match_of s f = record { piece = piece_of f.lexeme f.amount (take f.len s); len = f.len }
