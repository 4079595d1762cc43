-- The symbols of a source, box by box. Only clauses of what the parser calls rest on this file.
use Rattle.std.specs.Prelude.{◌≡◌, ℕ, ◌≤◌, ◌⊎◌, Bool, true, false, List, [], ◌∷◌, ◌++◌, length, drop}
use Rattle.zf_scan.specs.declared.pieces.Piece.{Piece}
use Rattle.zf_scan.specs.declared.pieces.Region.{Region}
use Rattle.zf_scan.specs.declared.pieces.Region.TheVariants.{Outside}
use Rattle.zf_scan.specs.declared.scan.Border.{Border}
use Rattle.zf_scan.specs.declared.scan.TheConstants.{SOURCE_MAX}
use Rattle.zf_scan.specs.declared.token.Kind.{Kind}
use Rattle.zf_scan.specs.declared.token.Kind.TheVariants.{BeginZed, BeginSchema, EndBox}
use Rattle.zf_scan.specs.declared.token.Token.{Token}
use Rattle.zf_scan.specs.Cuts.{Spot, start, Cuts, tokens_from, IsCutInto}

-- pieces of a source up to a place, and their tokens
pub record Before (source : List ℕ) (at : ℕ) (place : Region) (tokens : List Token) : Type 0 where
  pub pieces : List (Piece × List ℕ)
  pub spot : Spot
  pub cuts : Cuts pieces start source spot (drop at source)
  pub tokens_are : (qs : List (Piece × List ℕ)) → tokens_from start (pieces ++ qs) ≡ tokens ++ tokens_from spot qs
  pub at_is : at ≡ length spot.before
  pub place_is : place ≡ spot.place

-- a source is cut up to a place outside of all boxes, with these tokens
pub record IsCutUpTo (source : List ℕ) (border : Border) (tokens : List Token) : Type 0 where
  pub before : Before source border.start Outside tokens
  pub short : length source ≤ SOURCE_MAX
  pub within : border.start ≤ length source

abbrev pub IsBorder : List ℕ → Border → Type 0
IsBorder source border = (tokens : List Token) × IsCutUpTo source border tokens

-- ---- the tokens of a box

abbrev pub begins_box : Kind → Bool
begins_box BeginZed = true
begins_box (BeginSchema name) = true
begins_box _ = false

abbrev pub ends_box : Kind → Bool
ends_box EndBox = true
ends_box _ = false

abbrev pub BeginsBox : List Token → Type 0
BeginsBox [] = ⊥
BeginsBox (t ∷ ts) = begins_box t.kind ≡ true

-- the end stands last, and nowhere else
abbrev pub EndsOnce : List Token → Type 0
EndsOnce [] = ⊥
EndsOnce (t ∷ []) = ends_box t.kind ≡ true
EndsOnce (t ∷ (u ∷ ts)) = (ends_box t.kind ≡ false) × EndsOnce (u ∷ ts)

pub record IsBox (tokens : List Token) : Type 0 where
  pub begins : BeginsBox tokens
  pub ends : EndsOnce tokens

-- one box, or no token
abbrev pub IsBoxAtMost : List Token → Type 0
IsBoxAtMost tokens = (tokens ≡ []) ⊎ IsBox tokens

-- what may follow a box: nothing, or the beginning of another
abbrev pub Follows : List Token → Type 0
Follows tokens = (tokens ≡ []) ⊎ BeginsBox tokens

-- the source is cut, its first tokens these
abbrev pub IsCutOn : List ℕ → List Token → Type 0
IsCutOn source tokens = (more : List Token) × Follows more × IsCutInto source (tokens ++ more)
