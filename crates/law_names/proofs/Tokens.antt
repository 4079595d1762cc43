-- The tokens of a source are no more than its bytes, and the names among them have the bytes of names.
use Rattle.law_names.proofs.Prelude.{◌||◌, ◌++◌, ◌∷◌, ◌≤◌, [], ap, arith, Bool, false, length, length-append, List, subst, sym, true, ℕ, if◌then◌else◌, Cuts, IsCutInto, past, Spot, Stands, start, tokens_from, tokens_of, canonical, is_separator, opens, reduced, reduced_after, starts_closed, Symbol, symbol_of, Piece, Kind}
use Rattle.zf_scan.specs.declared.pieces.Piece.TheVariants as pieces
use Rattle.zf_scan.specs.declared.token.Kind.TheVariants as k
use Rattle.zf_scan.specs.declared.token.Token.{Token}
use Rattle.zf_scan.proofs.Same.{stands_some}
use Rattle.law_names.proofs.Pieces.{IsSpelled, symbol_spelled}

-- each symbol is spelled so
abbrev pub AreSpelled : List Symbol → Type 0
AreSpelled [] = Unit {0}
AreSpelled (s ∷ ss) = IsSpelled s.kind × AreSpelled ss

abbrev AreTokensSpelled : List Token → Type 0
AreTokensSpelled [] = Unit {0}
AreTokensSpelled (t ∷ ts) = IsSpelled t.kind × AreTokensSpelled ts

-- at most one token for each byte, and each is spelled so
abbrev AreTokensOf : List Token → List ℕ → Type 0
AreTokensOf ts source = AreTokensSpelled ts × (length ts ≤ length source)

both_spelled : (ts us : List Token) → AreTokensSpelled ts → AreTokensSpelled us → AreTokensSpelled (ts ++ us)
both_spelled [] us h g = g
both_spelled (t ∷ ts) us h g = (h.0, both_spelled ts us h.1 g)

one_token : (spot : Spot) (piece : Piece) (p after : List ℕ) → Stands spot.place piece p after → AreTokensOf (tokens_of spot piece p) p
one_token spot pieces.Plain p after s = (tt, omega arith)
one_token spot (pieces.Refused kind) p after s = (tt, omega arith)
one_token spot (pieces.Symbol kind) p after s = ((symbol_spelled spot.place kind p after s, tt), omega (arith, stands_some spot.place (pieces.Symbol kind) p after s))

tokens_spelled : (ps : List (Piece × List ℕ)) (spot : Spot) (source : List ℕ) (end : Spot) (rest : List ℕ) → Cuts ps spot source end rest → AreTokensOf (tokens_from spot ps) source
tokens_spelled [] spot source end rest h = (tt, omega arith)
tokens_spelled (p ∷ ps) spot source end rest h =
    let one = one_token spot p.0 p.1 h.0 h.2 in
    let more = tokens_spelled ps (past spot p) h.0 end rest h.4 in (
      both_spelled (tokens_of spot p.0 p.1) (tokens_from (past spot p) ps) one.0 more.0,
      omega (arith, length-append (tokens_of spot p.0 p.1) (tokens_from (past spot p) ps), ap length h.1, length-append p.1 h.0, one.1, more.1),
    )

cut_spelled : (source : List ℕ) (tokens : List Token) → IsCutInto source tokens → AreTokensOf tokens source
cut_spelled source tokens c = subst (λ ts. AreTokensOf ts source) (sym c.tokens_are) (tokens_spelled c.pieces start source c.end [] c.cuts)

-- ---- without needless separators

canonical_spelled : (kind : Kind) → IsSpelled kind → IsSpelled (canonical kind)
canonical_spelled (k.Separator s) h = λ base strokes e. absurd (cc)
canonical_spelled _ h = h

reduced_spelled : (drops : Bool) (ts : List Token) → AreTokensSpelled ts → AreSpelled (reduced_after drops ts) × (length (reduced_after drops ts) ≤ length ts)
reduced_spelled drops [] h = (tt, omega arith)
reduced_spelled drops (t ∷ ts) h =
    by (is_separator t.kind) (drops || starts_closed ts) (reduced_spelled drops ts h.1) (reduced_spelled true ts h.1) (reduced_spelled (opens t.kind) ts h.1)
  where
    by : (s d : Bool)
        → AreSpelled (reduced_after drops ts) × (length (reduced_after drops ts) ≤ length ts)
        → AreSpelled (reduced_after true ts) × (length (reduced_after true ts) ≤ length ts)
        → AreSpelled (reduced_after (opens t.kind) ts) × (length (reduced_after (opens t.kind) ts) ≤ length ts)
        → AreSpelled (if s then (if d then reduced_after drops ts else symbol_of t ∷ reduced_after true ts) else symbol_of t ∷ reduced_after (opens t.kind) ts)
        × (length (if s then (if d then reduced_after drops ts else symbol_of t ∷ reduced_after true ts) else symbol_of t ∷ reduced_after (opens t.kind) ts) ≤ length (t ∷ ts))
    by true true out kept other = (out.0, omega (arith, out.1))
    by true false out kept other = ((canonical_spelled t.kind h.0, kept.0), omega (arith, kept.1))
    by false d out kept other = ((canonical_spelled t.kind h.0, other.0), omega (arith, other.1))

-- the symbols that a source is read from
pub symbols_spelled : (source : List ℕ) (tokens : List Token) → IsCutInto source tokens → AreSpelled (reduced tokens) × (length (reduced tokens) ≤ length source)
symbols_spelled source tokens c =
    let here = cut_spelled source tokens c in
    let more = reduced_spelled true tokens here.0 in
    (more.0, omega (arith, more.1, here.1))
