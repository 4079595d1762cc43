-- The pieces that a source is cut into: how each is spelled (words and decorations by ZRM 3.1, in the fuzz markup), and which are refused.
use Rattle.std.specs.Prelude.{◌≡◌, ℕ, ◌+◌, ◌-◌, ◌*◌, ◌⊎◌, Bool, true, false, not, ◌&&◌, ◌||◌, nat_le, ◌==◌, if◌then◌else◌, List, [], ◌∷◌, ◌++◌, length, codes, Option, Some, None}
use Rattle.std.specs.Char.{is_ascii_digit, is_ascii_lowercase, is_ascii_uppercase}
use Rattle.std.specs.List.{fold}
use Rattle.std.specs.Str.{bytes_eq}
use Rattle.zf_scan.specs.declared.pieces.Piece.{Piece}
use Rattle.zf_scan.specs.declared.pieces.Piece.TheVariants.{Plain, Symbol, Refused}
use Rattle.zf_scan.specs.declared.pieces.Run.{Run}
use Rattle.zf_scan.specs.declared.pieces.Run.TheVariants.{Letters, Digits, Base, Strokes, Line}
use Rattle.zf_scan.specs.declared.fault.TextFaultKind.TheVariants as faults
use Rattle.zf_scan.specs.declared.token.Kind.TheVariants.{BeginZed, BeginSchema, EndBox, Name, Number, Separator, OpenRound, CloseRound, OpenSquare, CloseSquare, OpenBrace, CloseBrace, OpenImage, CloseImage, Comma, Colon, Bar, At, Abbreviates, FreeType, Defines, Where, Infix, Arrow, Cross, Prefix, Inverse, Constant, EmptySet, Relation, Not, Connective, Quantifier, Delta, Xi}
use Rattle.zf_scan.specs.declared.token.Separator.TheVariants as separators
use Rattle.zf_tree.specs.declared.symbol.Infix.TheVariants as infixes
use Rattle.zf_tree.specs.declared.symbol.Arrow.TheVariants as arrows
use Rattle.zf_tree.specs.declared.symbol.Prefix.TheVariants as prefixes
use Rattle.zf_tree.specs.declared.symbol.Constant.TheVariants as constants
use Rattle.zf_tree.specs.declared.symbol.Relation.TheVariants as relations
use Rattle.zf_tree.specs.declared.symbol.Connective.TheVariants as connectives
use Rattle.zf_tree.specs.declared.symbol.Quantifier.TheVariants as quantifiers

abbrev pub is_letter : ℕ → Bool
is_letter b = is_ascii_lowercase b || is_ascii_uppercase b

-- the bytes that a run is made of: in strokes `'`, `?` and `!`
abbrev pub is_one : Run → ℕ → Bool
is_one Letters b = is_letter b
is_one Digits b = is_ascii_digit b
is_one Base b = is_letter b || is_ascii_digit b
is_one Strokes b = b == 39 || (b == 63 || b == 33)
is_one Line b = not (b == 10)

-- and the pairs of bytes: in a base `\_`, in strokes `_` with a digit
abbrev pub is_two : Run → ℕ → ℕ → Bool
is_two Base b c = b == 92 && c == 95
is_two Strokes b c = b == 95 && is_ascii_digit c
is_two _ b c = false

abbrev pub is_run : Run → List ℕ → Bool
is_run run [] = true
is_run run (b ∷ []) = is_one run b
is_run run (b ∷ c ∷ bs) = if is_one run b then is_run run (c ∷ bs) else (is_two run b c && is_run run bs)

-- ---- pieces of one spelling

-- the piece of the row whose text is p
abbrev pub look_up : List ℕ → List (List ℕ × Piece) → Option Piece
look_up p [] = None
look_up p (row ∷ rows) = if bytes_eq p row.0 then Some row.1 else look_up p rows

-- inside a box, refused ones among them, but for its closing
unfoldable pub symbols : List (List ℕ × Piece)
symbols =
    (9 ∷ [], Plain)
    ∷ (10 ∷ [], Plain)
    ∷ (13 ∷ [], Plain)
    ∷ (codes " ", Plain)
    ∷ (codes "~", Plain)
    ∷ (codes "\\,", Plain)
    ∷ (codes "\\:", Plain)
    ∷ (codes "\\;", Plain)
    ∷ (codes "\\!", Plain)
    ∷ (codes "\\ ", Plain)
    ∷ (codes "\\t1", Plain)
    ∷ (codes "\\t2", Plain)
    ∷ (codes "\\t3", Plain)
    ∷ (codes "\\t4", Plain)
    ∷ (codes "\\t5", Plain)
    ∷ (codes "\\t6", Plain)
    ∷ (codes "\\t7", Plain)
    ∷ (codes "\\t8", Plain)
    ∷ (codes "\\t9", Plain)
    ∷ (codes ";", Symbol (Separator separators.Semicolon))
    ∷ (codes "\\\\", Symbol (Separator separators.NewLine))
    ∷ (codes "\\also", Symbol (Separator separators.Also))
    ∷ (codes "(", Symbol OpenRound)
    ∷ (codes ")", Symbol CloseRound)
    ∷ (codes "[", Symbol OpenSquare)
    ∷ (codes "]", Symbol CloseSquare)
    ∷ (codes "\\{", Symbol OpenBrace)
    ∷ (codes "\\}", Symbol CloseBrace)
    ∷ (codes "\\limg", Symbol OpenImage)
    ∷ (codes "\\rimg", Symbol CloseImage)
    ∷ (codes ",", Symbol Comma)
    ∷ (codes ":", Symbol Colon)
    ∷ (codes "|", Symbol Bar)
    ∷ (codes "@", Symbol At)
    ∷ (codes "==", Symbol Abbreviates)
    ∷ (codes "::=", Symbol FreeType)
    ∷ (codes "\\defs", Symbol Defines)
    ∷ (codes "\\where", Symbol Where)
    ∷ (codes "\\mapsto", Symbol (Infix infixes.Maplet))
    ∷ (codes "\\upto", Symbol (Infix infixes.UpTo))
    ∷ (codes "+", Symbol (Infix infixes.Plus))
    ∷ (codes "-", Symbol (Infix infixes.Minus))
    ∷ (codes "\\cup", Symbol (Infix infixes.Union))
    ∷ (codes "\\setminus", Symbol (Infix infixes.Difference))
    ∷ (codes "*", Symbol (Infix infixes.Times))
    ∷ (codes "\\div", Symbol (Infix infixes.Div))
    ∷ (codes "\\mod", Symbol (Infix infixes.Mod))
    ∷ (codes "\\cap", Symbol (Infix infixes.Intersection))
    ∷ (codes "\\comp", Symbol (Infix infixes.Composition))
    ∷ (codes "\\oplus", Symbol (Infix infixes.Overriding))
    ∷ (codes "\\dres", Symbol (Infix infixes.DomainRestriction))
    ∷ (codes "\\rres", Symbol (Infix infixes.RangeRestriction))
    ∷ (codes "\\ndres", Symbol (Infix infixes.DomainSubtraction))
    ∷ (codes "\\nrres", Symbol (Infix infixes.RangeSubtraction))
    ∷ (codes "\\rel", Symbol (Arrow arrows.Relation))
    ∷ (codes "\\pfun", Symbol (Arrow arrows.PartialFunction))
    ∷ (codes "\\fun", Symbol (Arrow arrows.TotalFunction))
    ∷ (codes "\\pinj", Symbol (Arrow arrows.PartialInjection))
    ∷ (codes "\\inj", Symbol (Arrow arrows.TotalInjection))
    ∷ (codes "\\cross", Symbol Cross)
    ∷ (codes "\\power", Symbol (Prefix prefixes.Power))
    ∷ (codes "\\finset", Symbol (Prefix prefixes.Finset))
    ∷ (codes "\\dom", Symbol (Prefix prefixes.Domain))
    ∷ (codes "\\ran", Symbol (Prefix prefixes.Range))
    ∷ (codes "\\#", Symbol (Prefix prefixes.Size))
    ∷ (codes "\\inv", Symbol Inverse)
    ∷ (codes "true", Symbol (Constant constants.True))
    ∷ (codes "false", Symbol (Constant constants.False))
    ∷ (codes "\\num", Symbol (Constant constants.Integers))
    ∷ (codes "\\nat", Symbol (Constant constants.Naturals))
    ∷ (codes "\\nat_1", Symbol (Constant constants.Positives))
    ∷ (codes "\\emptyset", Symbol EmptySet)
    ∷ (codes "=", Symbol (Relation relations.Equal))
    ∷ (codes "\\neq", Symbol (Relation relations.NotEqual))
    ∷ (codes "\\in", Symbol (Relation relations.Member))
    ∷ (codes "\\notin", Symbol (Relation relations.NotMember))
    ∷ (codes "\\subseteq", Symbol (Relation relations.Subset))
    ∷ (codes "\\subset", Symbol (Relation relations.ProperSubset))
    ∷ (codes "<", Symbol (Relation relations.Less))
    ∷ (codes "\\leq", Symbol (Relation relations.AtMost))
    ∷ (codes ">", Symbol (Relation relations.Greater))
    ∷ (codes "\\geq", Symbol (Relation relations.AtLeast))
    ∷ (codes "\\lnot", Symbol Not)
    ∷ (codes "\\land", Symbol (Connective connectives.And))
    ∷ (codes "\\lor", Symbol (Connective connectives.Or))
    ∷ (codes "\\implies", Symbol (Connective connectives.Implies))
    ∷ (codes "\\iff", Symbol (Connective connectives.Iff))
    ∷ (codes "\\forall", Symbol (Quantifier quantifiers.ForAll))
    ∷ (codes "\\exists", Symbol (Quantifier quantifiers.Exists))
    ∷ (codes "\\exists_1", Symbol (Quantifier quantifiers.ExistsOne))
    ∷ (codes "\\Delta", Symbol Delta)
    ∷ (codes "\\Xi", Symbol Xi)
    ∷ (codes "\\begin", Refused faults.UnclosedBox)
    ∷ (codes "\\end", Refused faults.UnclosedBox)
    ∷ (codes "{", Refused faults.NotInProfile)
    ∷ (codes "}", Refused faults.NotInProfile)
    ∷ (codes "\\theta", Refused faults.NotInProfile)
    ∷ (codes "\\lambda", Refused faults.NotInProfile)
    ∷ (codes "\\mu", Refused faults.NotInProfile)
    ∷ (codes "\\LET", Refused faults.NotInProfile)
    ∷ (codes "\\IF", Refused faults.NotInProfile)
    ∷ (codes "\\THEN", Refused faults.NotInProfile)
    ∷ (codes "\\ELSE", Refused faults.NotInProfile)
    ∷ (codes "\\seq", Refused faults.NotInProfile)
    ∷ (codes "\\bag", Refused faults.NotInProfile)
    ∷ (codes "\\bigcup", Refused faults.NotInProfile)
    ∷ (codes "\\bigcap", Refused faults.NotInProfile)
    ∷ (codes "\\id", Refused faults.NotInProfile)
    ∷ (codes "\\surj", Refused faults.NotInProfile)
    ∷ (codes "\\bij", Refused faults.NotInProfile)
    ∷ (codes "\\ffun", Refused faults.NotInProfile)
    ∷ (codes "\\power_1", Refused faults.NotInProfile)
    ∷ (codes "\\finset_1", Refused faults.NotInProfile)
    ∷ (codes "\\hide", Refused faults.NotInProfile)
    ∷ (codes "\\project", Refused faults.NotInProfile)
    ∷ (codes "\\pre", Refused faults.NotInProfile)
    ∷ (codes "\\semi", Refused faults.NotInProfile)
    ∷ (codes "\\pipe", Refused faults.NotInProfile)
    ∷ (codes "\\ldata", Refused faults.NotInProfile)
    ∷ (codes "\\rdata", Refused faults.NotInProfile)
    ∷ []

-- outside; a schema box with its name has a rule of its own
unfoldable pub openings : List (List ℕ × Piece)
openings =
    (codes "\\begin{zed}", Symbol BeginZed)
    ∷ (codes "\\begin{schema}", Refused faults.BadByte)
    ∷ (codes "\\begin{axdef}", Refused faults.NotInProfile)
    ∷ (codes "\\begin{gendef}", Refused faults.NotInProfile)
    ∷ (codes "\\begin{syntax}", Refused faults.NotInProfile)
    ∷ []

-- ---- the other pieces

-- `%` and the rest of its line; one that begins `%%` and a lower-case letter is refused
abbrev pub IsComment : List ℕ → Type 0
IsComment p = (line : List ℕ) × (p ≡ 37 ∷ line) × (is_run Line line ≡ true)

abbrev pub is_directive : List ℕ → Bool
is_directive (a ∷ b ∷ c ∷ cs) = a == 37 && (b == 37 && is_ascii_lowercase c)
is_directive _ = false

abbrev pub comment : List ℕ → Piece
comment p = if is_directive p then Refused faults.NotInProfile else Plain

-- a letter, and letters, digits and `\_`
abbrev pub is_base : List ℕ → Bool
is_base [] = false
is_base (b ∷ bs) = is_letter b && is_run Base bs

abbrev pub is_number : List ℕ → Bool
is_number [] = false
is_number (b ∷ bs) = is_run Digits (b ∷ bs)

abbrev pub value : List ℕ → ℕ
value digits = fold (λ n b. 10 * n + (b - 48)) 0 digits

abbrev pub number_max : ℕ
number_max = 9223372036854775807

abbrev pub number_piece : List ℕ → Piece
number_piece p = if nat_le (value p) number_max then Symbol (Number (value p)) else Refused faults.NumberTooLarge

-- a backslash with letters or with one byte, or alone, which is the longest only at the end of a source
abbrev pub IsCommand : List ℕ → Type 0
IsCommand p = (word : List ℕ) × (p ≡ 92 ∷ word) × ((is_run Letters word ≡ true) ⊎ (length word ≡ 1))

-- the kinds of piece inside a box: of one spelling, its closing, a comment, a name, a number, a command that the table lacks
pub data InsideKind : Type 0 where
  fixed : InsideKind
  closing : InsideKind
  remark : InsideKind
  name : InsideKind
  digits : InsideKind
  unknown : InsideKind

-- how a piece of each is spelled, and what it then is, where `end` closes the box
abbrev pub SpellsInside : List ℕ → InsideKind → Piece → List ℕ → Type 0
SpellsInside end fixed piece p = look_up p symbols ≡ Some piece
SpellsInside end closing piece p = (p ≡ end) × (piece ≡ Symbol EndBox)
SpellsInside end remark piece p = IsComment p × (piece ≡ comment p)
SpellsInside end name piece p = (base strokes : List ℕ) × (p ≡ base ++ strokes) × (is_base base ≡ true) × (is_run Strokes strokes ≡ true) × (look_up p symbols ≡ None) × (piece ≡ Symbol (Name base strokes))
SpellsInside end digits piece p = (is_number p ≡ true) × (piece ≡ number_piece p)
SpellsInside end unknown piece p = IsCommand p × (look_up p symbols ≡ None) × (piece ≡ Refused faults.UnknownCommand)

-- outside a box: an opening of one spelling, that of a named schema box, a backslash with the byte after it, a comment, any other byte
pub data OutsideKind : Type 0 where
  opening : OutsideKind
  schema_opening : OutsideKind
  escape : OutsideKind
  remark : OutsideKind
  informal : OutsideKind

abbrev pub SpellsOutside : OutsideKind → Piece → List ℕ → Type 0
SpellsOutside opening piece p = look_up p openings ≡ Some piece
SpellsOutside schema_opening piece p = (name : List ℕ) × (p ≡ codes "\\begin{schema}{" ++ name ++ codes "}") × (is_base name ≡ true) × (look_up name symbols ≡ None) × (piece ≡ Symbol (BeginSchema name))
SpellsOutside escape piece p = ((p ≡ 92 ∷ []) ⊎ ((b : ℕ) × (p ≡ 92 ∷ b ∷ []))) × (piece ≡ Plain)
SpellsOutside remark piece p = IsComment p × (piece ≡ comment p)
SpellsOutside informal piece p = (length p ≡ 1) × (piece ≡ Plain)

-- the order in which they are tried
abbrev pub turn : OutsideKind → ℕ
turn opening = 1
turn schema_opening = 1
turn escape = 2
turn remark = 3
turn informal = 4
