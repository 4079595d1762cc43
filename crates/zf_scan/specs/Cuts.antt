-- When a source is cut, its tokens, and the fault of a source that is not cut.
use Rattle.std.specs.Prelude.{◌≡◌, ℕ, ◌+◌, ◌≤◌, ◌<◌, ◌⊎◌, List, [], ◌∷◌, ◌++◌, length, codes}
use Rattle.zf_scan.specs.declared.fault.TextFault.{TextFault}
use Rattle.zf_scan.specs.declared.fault.TextFaultKind.{TextFaultKind}
use Rattle.zf_scan.specs.declared.fault.TextFaultKind.TheVariants.{BadByte, UnclosedBox, TooLong}
use Rattle.zf_scan.specs.declared.pieces.Piece.{Piece}
use Rattle.zf_scan.specs.declared.pieces.Piece.TheVariants.{Symbol, Refused}
use Rattle.zf_scan.specs.declared.pieces.Region.{Region}
use Rattle.zf_scan.specs.declared.pieces.Region.TheVariants as places
use Rattle.zf_scan.specs.declared.scan.TheConstants.{SOURCE_MAX}
use Rattle.zf_scan.specs.declared.token.Kind.TheVariants.{BeginZed, BeginSchema, EndBox}
use Rattle.zf_scan.specs.declared.token.Token.{Token}
use Rattle.zf_tree.specs.declared.span.Span.{Span}
use Rattle.zf_scan.specs.Pieces.{InsideKind, SpellsInside, OutsideKind, SpellsOutside, turn}

-- inside a box that `end` closes, the piece that begins a text: none that begins there is longer
pub record StandsInside (end : List ℕ) (piece : Piece) (p after : List ℕ) : Type 0 where
  pub kind : InsideKind
  pub spells : SpellsInside end kind piece p
  pub longest : (other : InsideKind) (found : Piece) (r rest : List ℕ) → SpellsInside end other found r → p ++ after ≡ r ++ rest → length r ≤ length p

-- outside: it is of the first kind that fits, and the longest of that kind
pub record StandsOutside (piece : Piece) (p after : List ℕ) : Type 0 where
  pub kind : OutsideKind
  pub spells : SpellsOutside kind piece p
  pub first : (other : OutsideKind) (found : Piece) (r rest : List ℕ) → SpellsOutside other found r → p ++ after ≡ r ++ rest → (turn kind < turn other) ⊎ ((turn kind ≡ turn other) × (length r ≤ length p))

abbrev pub Stands : Region → Piece → List ℕ → List ℕ → Type 0
Stands places.Outside piece p after = StandsOutside piece p after
Stands (places.Zed span) piece p after = StandsInside (codes "\\end{zed}") piece p after
Stands (places.Schema span) piece p after = StandsInside (codes "\\end{schema}") piece p after

-- where a piece stands, with what is before it
pub record Spot : Type 0 where
  pub place : Region
  pub before : List ℕ

-- the part of a source from one place to another
abbrev pub from_to : (start stop : ℕ) → Span
from_to start stop = record { start = start; stop = stop }

-- the part that a piece is
abbrev pub span_at : Spot → List ℕ → Span
span_at spot p = from_to (length spot.before) (length spot.before + length p)

abbrev pub start : Spot
start = record { place = places.Outside; before = [] }

-- the place after a piece
abbrev pub entered : Region → Span → Piece → Region
entered place span (Symbol BeginZed) = places.Zed span
entered place span (Symbol (BeginSchema name)) = places.Schema span
entered place span (Symbol EndBox) = places.Outside
entered place span _ = place

abbrev pub past : Spot → Piece × List ℕ → Spot
past spot p = record { place = entered spot.place (span_at spot p.1) p.0; before = spot.before ++ p.1 }

-- ---- cuts

abbrev pub IsRead : Piece → Type 0
IsRead (Refused kind) = ⊥
IsRead _ = Unit {0}

-- pieces, each the one that stands at its spot, from one text to what is left of it
abbrev pub Cuts : List (Piece × List ℕ) → Spot → List ℕ → Spot → List ℕ → Type 0
Cuts [] spot source end rest = (spot ≡ end) × (source ≡ rest)
Cuts (p ∷ ps) spot source end rest = (after : List ℕ) × (source ≡ p.1 ++ after) × Stands spot.place p.0 p.1 after × IsRead p.0 × Cuts ps (past spot p) after end rest

abbrev pub tokens_of : Spot → Piece → List ℕ → List Token
tokens_of spot (Symbol kind) p = record { kind = kind; span = span_at spot p } ∷ []
tokens_of spot _ p = []

abbrev pub tokens_from : Spot → List (Piece × List ℕ) → List Token
tokens_from spot [] = []
tokens_from spot (p ∷ ps) = tokens_of spot p.0 p.1 ++ tokens_from (past spot p) ps

-- a source that is cut, with its tokens
pub record IsCutInto (source : List ℕ) (tokens : List Token) : Type 0 where
  pub short : length source ≤ SOURCE_MAX
  pub pieces : List (Piece × List ℕ)
  pub end : Spot
  pub cuts : Cuts pieces start source end []
  pub closed : end.place ≡ places.Outside
  pub tokens_are : tokens ≡ tokens_from start pieces

-- ---- faults

-- where nothing is
abbrev pub nowhere : Span
nowhere = from_to 0 0

-- the `\begin` of the box
abbrev pub begun : Region → Span
begun places.Outside = nowhere
begun (places.Zed span) = span
begun (places.Schema span) = span

-- a box that is not closed is reported where it begins, anything else at its place
abbrev pub reported : Region → ℕ → TextFaultKind → Span
reported place at UnclosedBox = begun place
reported place at _ = from_to at at

-- no piece fits: one that is refused stands there, or none, or the source ends in a box
abbrev pub Fails : Region → List ℕ → TextFaultKind → Type 0
Fails place rest kind =
    ((p after : List ℕ) × (rest ≡ p ++ after) × Stands place (Refused kind) p after)
    ⊎ (((kind ≡ BadByte) × (0 < length rest) × ((piece : Piece) (p after : List ℕ) → rest ≡ p ++ after → Stands place piece p after → ⊥))
    ⊎ ((kind ≡ UnclosedBox) × (rest ≡ []) × (place ≡ places.Outside → ⊥)))

-- the first place where no piece fits
pub record IsStuck (source : List ℕ) (fault : TextFault) : Type 0 where
  pub short : length source ≤ SOURCE_MAX
  pub pieces : List (Piece × List ℕ)
  pub spot : Spot
  pub rest : List ℕ
  pub cuts : Cuts pieces start source spot rest
  pub fails : Fails spot.place rest fault.kind
  pub span : fault.span ≡ reported spot.place (length spot.before) fault.kind

abbrev pub IsTooLong : List ℕ → TextFault → Type 0
IsTooLong source fault = (SOURCE_MAX < length source) × (fault.kind ≡ TooLong) × (fault.span ≡ nowhere)

abbrev pub HasFault : List ℕ → TextFault → Type 0
HasFault source fault = IsTooLong source fault ⊎ IsStuck source fault
