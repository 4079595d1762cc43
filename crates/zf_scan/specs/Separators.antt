-- The reduced list of a token list: a run of separators is one symbol, or none where a neighbour makes it needless (line breaks of ZRM 3.1).
use Rattle.std.specs.Prelude.{Bool, true, false, ◌||◌, if◌then◌else◌, List, [], ◌∷◌}
use Rattle.zf_scan.specs.declared.token.Kind.{Kind}
use Rattle.zf_scan.specs.declared.token.Kind.TheVariants as k
use Rattle.zf_scan.specs.declared.token.Separator.TheVariants.{Semicolon}
use Rattle.zf_scan.specs.declared.token.Token.{Token}
use Rattle.zf_tree.specs.declared.span.Span.{Span}

-- what the grammar reads: tokens, where one separator stands for a run
abbrev pub Symbol : Type 0
Symbol = Token

abbrev pub symbol : Kind → Span → Symbol
symbol kind span = record { kind = kind; span = span }

-- a kept separator, whichever of the three it was
abbrev pub separator : Kind
separator = k.Separator Semicolon

abbrev pub canonical : Kind → Kind
canonical (k.Separator s) = separator
canonical kind = kind

abbrev pub symbol_of : Token → Symbol
symbol_of t = symbol (canonical t.kind) t.span

abbrev pub is_separator : Kind → Bool
is_separator (k.Separator s) = true
is_separator _ = false

-- a separator before or after such a token is dropped
abbrev pub joins : Kind → Bool
joins (k.Infix op) = true
joins (k.Relation r) = true
joins (k.Arrow op) = true
joins k.Cross = true
joins (k.Connective c) = true
joins k.Comma = true
joins k.Colon = true
joins k.Bar = true
joins k.At = true
joins k.Defines = true
joins k.Abbreviates = true
joins k.FreeType = true
joins k.Where = true
joins _ = false

-- a separator after such a token is dropped
abbrev pub opens : Kind → Bool
opens k.BeginZed = true
opens (k.BeginSchema name) = true
opens k.OpenRound = true
opens k.OpenSquare = true
opens k.OpenBrace = true
opens k.OpenImage = true
opens kind = joins kind

-- a separator before such a token is dropped, so that the last of a run stands for it
abbrev pub closes : Kind → Bool
closes k.EndBox = true
closes k.CloseRound = true
closes k.CloseSquare = true
closes k.CloseBrace = true
closes k.CloseImage = true
closes (k.Separator s) = true
closes kind = joins kind

abbrev pub starts_closed : List Token → Bool
starts_closed [] = false
starts_closed (t ∷ ts) = closes t.kind

-- the reduced list of what follows a token; whether that token drops a separator after it comes first
abbrev pub reduced_after : Bool → List Token → List Symbol
reduced_after drops [] = []
reduced_after drops (t ∷ ts) =
    if is_separator t.kind
    then (if drops || starts_closed ts then reduced_after drops ts else symbol_of t ∷ reduced_after true ts)
    else symbol_of t ∷ reduced_after (opens t.kind) ts

abbrev pub reduced : List Token → List Symbol
reduced = reduced_after true
