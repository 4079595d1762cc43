-- Tokens laid out as the symbols of a text of their own. Only clauses of what the parser calls rest on this file.
use Rattle.std.specs.Prelude.{◌≡◌, ℕ, ◌≤◌, List, [], ◌∷◌, ◌++◌, length, map, codes}
use Rattle.zf_scan.specs.declared.placed.Placed.{Placed}
use Rattle.zf_scan.specs.declared.token.Kind.{Kind}
use Rattle.zf_scan.specs.declared.token.Kind.TheVariants as k
use Rattle.zf_scan.specs.declared.token.Token.{Token}
use Rattle.zf_scan.specs.Placing.{token_at}

abbrev pub spelling : Kind → List ℕ
spelling (k.BeginSchema base) = codes "\\begin{schema}{" ++ base
spelling (k.Name base strokes) = base ++ strokes
spelling _ = []

abbrev pub amount : Kind → ℕ
amount (k.BeginSchema base) = length base
amount (k.Name base strokes) = length base
amount (k.Number v) = v
amount _ = 0

abbrev pub AreWithin : ℕ → List Placed → Type 0
AreWithin n [] = Unit {0}
AreWithin n (p ∷ ps) = (p.start ≤ p.stop) × (p.stop ≤ n) × AreWithin n ps

-- these symbols of the text are the tokens
pub record IsLaid (text : List ℕ) (symbols : List Placed) (tokens : List Token) : Type 0 where
  pub same : map (token_at text) symbols ≡ tokens
  pub within : AreWithin (length text) symbols
