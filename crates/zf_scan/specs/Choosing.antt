-- What comes next, for the rules of the grammar to choose by. Only clauses of what the parser calls rest on this file.
use Rattle.std.specs.Prelude.{Bool, true, false}
use Rattle.zf_scan.specs.declared.next.Mark.{Mark}
use Rattle.zf_scan.specs.declared.next.Mark.TheVariants as mark
use Rattle.zf_scan.specs.declared.next.Next.{Next}
use Rattle.zf_scan.specs.declared.next.Next.TheVariants as next
use Rattle.zf_scan.specs.declared.token.Kind.{Kind}
use Rattle.zf_scan.specs.declared.token.Kind.TheVariants as k
use Rattle.zf_scan.specs.declared.token.Separator.TheVariants.{Semicolon}

abbrev pub next_of : Kind → Next
next_of k.BeginZed = next.BeginZed
next_of (k.BeginSchema name) = next.BeginSchema
next_of k.EndBox = next.EndBox
next_of (k.Name base strokes) = next.Name
next_of (k.Number v) = next.Number
next_of (k.Separator s) = next.Separator s
next_of k.OpenRound = next.OpenRound
next_of k.CloseRound = next.CloseRound
next_of k.OpenSquare = next.OpenSquare
next_of k.CloseSquare = next.CloseSquare
next_of k.OpenBrace = next.OpenBrace
next_of k.CloseBrace = next.CloseBrace
next_of k.OpenImage = next.OpenImage
next_of k.CloseImage = next.CloseImage
next_of k.Comma = next.Comma
next_of k.Colon = next.Colon
next_of k.Bar = next.Bar
next_of k.At = next.At
next_of k.Abbreviates = next.Abbreviates
next_of k.FreeType = next.FreeType
next_of k.Defines = next.Defines
next_of k.Where = next.Where
next_of (k.Infix op) = next.Infix op
next_of (k.Arrow a) = next.Arrow a
next_of k.Cross = next.Cross
next_of (k.Prefix s) = next.Prefix s
next_of k.Inverse = next.Inverse
next_of (k.Constant c) = next.Constant c
next_of k.EmptySet = next.EmptySet
next_of (k.Relation r) = next.Relation r
next_of k.Not = next.Not
next_of (k.Connective c) = next.Connective c
next_of (k.Quantifier q) = next.Quantifier q
next_of k.Delta = next.Delta
next_of k.Xi = next.Xi

abbrev pub is_mark : Mark → Next → Bool
is_mark mark.EndBox next.EndBox = true
is_mark mark.Separator (next.Separator Semicolon) = true
is_mark mark.CloseRound next.CloseRound = true
is_mark mark.OpenSquare next.OpenSquare = true
is_mark mark.CloseSquare next.CloseSquare = true
is_mark mark.CloseBrace next.CloseBrace = true
is_mark mark.CloseImage next.CloseImage = true
is_mark mark.Comma next.Comma = true
is_mark mark.Colon next.Colon = true
is_mark mark.Bar next.Bar = true
is_mark mark.At next.At = true
is_mark mark.Where next.Where = true
is_mark mark.Cross next.Cross = true
is_mark _ _ = false

-- whether the symbol goes on with a list of names; the test is whether a name is due
abbrev pub goes_on : Bool → Next → Bool
goes_on true next.Name = true
goes_on false next.Comma = true
goes_on _ _ = false

-- whether it ends the list as a colon does
abbrev pub ends_names : Bool → Next → Bool
ends_names false next.Colon = true
ends_names _ _ = false
