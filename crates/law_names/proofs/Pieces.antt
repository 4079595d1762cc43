-- The name that a piece of a source is has the bytes of a name.
use Rattle.law_names.proofs.Prelude.{◌++◌, ◌∙◌, ◌∷◌, ◌≡◌, [], ap, Bool, false, List, refl, Some, subst, sym, true, ℕ, list_all, if◌then◌else◌, codes, nat_le, bytes_eq, and_left, and_right, both, pick, Stands, Piece, Kind, IsName}
use Rattle.zf_scan.specs.declared.pieces.Piece.TheVariants.{Plain, Symbol, Refused}
use Rattle.zf_scan.specs.declared.pieces.Region.{Region}
use Rattle.zf_scan.specs.declared.pieces.Region.TheVariants as places
use Rattle.zf_scan.specs.declared.token.Kind.TheVariants as k
use Rattle.zf_scan.specs.{digits, escape, fixed, informal, InsideKind, is_directive, look_up, name, number_max, opening, openings, OutsideKind, remark, schema_opening, SpellsInside, SpellsOutside, symbols, unknown, value}
use Rattle.zf_scan.specs.Pieces.{closing}
use Rattle.law_names.proofs.Bytes.{spelled_name}

-- if it is a name, it has the bytes of one
abbrev pub IsSpelled : Kind → Type 0
IsSpelled kind = (base strokes : List ℕ) → kind ≡ k.Name base strokes → IsName (base ++ strokes)

abbrev IsPieceSpelled : Piece → Type 0
IsPieceSpelled Plain = Unit {0}
IsPieceSpelled (Refused fault) = Unit {0}
IsPieceSpelled (Symbol kind) = IsSpelled kind

-- ---- the tables hold no name

abbrev is_other : Kind → Bool
is_other (k.Name base strokes) = false
is_other _ = true

abbrev is_other_piece : Piece → Bool
is_other_piece Plain = true
is_other_piece (Refused fault) = true
is_other_piece (Symbol kind) = is_other kind

-- a test that the piece of each row passes
passes : (test : Piece → Bool) (rows : List (List ℕ × Piece)) (p : List ℕ) (piece : Piece) → list_all (λ row. test row.1) rows ≡ true → look_up p rows ≡ Some piece → test piece ≡ true
passes test [] p piece all e = absurd (cc)
passes test (row ∷ rows) p piece all e = by (bytes_eq p row.0) e (passes test rows p piece (and_right (test row.1) (list_all (λ row. test row.1) rows) all))
  where
    by : (t : Bool) → (if t then Some row.1 else look_up p rows) ≡ Some piece → (look_up p rows ≡ Some piece → test piece ≡ true) → test piece ≡ true
    by true f more = let same : row.1 ≡ piece = cc in ap test (sym same) ∙ and_left (test row.1) (list_all (λ row. test row.1) rows) all
    by false f more = more f

symbols_other : list_all (λ row. is_other_piece row.1) symbols ≡ true
unfolding symbols
symbols_other = refl

openings_other : list_all (λ row. is_other_piece row.1) openings ≡ true
unfolding openings
openings_other = refl

other_spelled : (kind : Kind) → is_other kind ≡ true → IsSpelled kind
other_spelled kind h base strokes e = both (is_other kind) h (ap is_other e)

other_piece : (piece : Piece) → is_other_piece piece ≡ true → IsPieceSpelled piece
other_piece Plain h = tt
other_piece (Refused fault) h = tt
other_piece (Symbol kind) h = other_spelled kind h

-- ---- each kind of piece

named_spelled : (base strokes : List ℕ) → IsName (base ++ strokes) → IsSpelled (k.Name base strokes)
named_spelled base strokes h b s e =
    let one : base ≡ b = cc in
    let two : strokes ≡ s = cc in
    subst (λ b. IsName (b ++ s)) one (subst (λ s. IsName (base ++ s)) two h)

as_piece : (piece other : Piece) → piece ≡ other → IsPieceSpelled other → IsPieceSpelled piece
as_piece piece other e h = subst IsPieceSpelled (sym e) h

inside_spelled : (end : List ℕ) (i : InsideKind) (piece : Piece) (p : List ℕ) → SpellsInside end i piece p → IsPieceSpelled piece
inside_spelled end fixed piece p h = other_piece piece (passes is_other_piece symbols p piece symbols_other h)
inside_spelled end closing piece p h = as_piece piece (Symbol k.EndBox) h.1 (other_spelled k.EndBox refl)
inside_spelled end remark piece p h = other_piece piece (ap is_other_piece h.1 ∙ pick (λ piece. is_other_piece piece ≡ true) (is_directive p) _ _ (λ _. refl) (λ _. refl))
inside_spelled end name piece p h = as_piece piece (Symbol (k.Name h.0 h.1)) h.6 (named_spelled h.0 h.1 (spelled_name h.0 h.1 h.3 h.4))
inside_spelled end digits piece p h = other_piece piece (ap is_other_piece h.1 ∙ pick (λ piece. is_other_piece piece ≡ true) (nat_le (value p) number_max) _ _ (λ _. refl) (λ _. refl))
inside_spelled end unknown piece p h = other_piece piece (ap is_other_piece h.2)

outside_spelled : (i : OutsideKind) (piece : Piece) (p : List ℕ) → SpellsOutside i piece p → IsPieceSpelled piece
outside_spelled opening piece p h = other_piece piece (passes is_other_piece openings p piece openings_other h)
outside_spelled schema_opening piece p h = other_piece piece (ap is_other_piece h.4)
outside_spelled escape piece p h = other_piece piece (ap is_other_piece h.1)
outside_spelled remark piece p h = other_piece piece (ap is_other_piece h.1 ∙ pick (λ piece. is_other_piece piece ≡ true) (is_directive p) _ _ (λ _. refl) (λ _. refl))
outside_spelled informal piece p h = other_piece piece (ap is_other_piece h.1)

piece_spelled : (place : Region) (piece : Piece) (p after : List ℕ) → Stands place piece p after → IsPieceSpelled piece
piece_spelled places.Outside piece p after s = outside_spelled s.kind piece p s.spells
piece_spelled (places.Zed line) piece p after s = inside_spelled (codes "\\end{zed}") s.kind piece p s.spells
piece_spelled (places.Schema line) piece p after s = inside_spelled (codes "\\end{schema}") s.kind piece p s.spells

-- a symbol that stands in a source is spelled so
pub symbol_spelled : (place : Region) (kind : Kind) (p after : List ℕ) → Stands place (Symbol kind) p after → IsSpelled kind
symbol_spelled place kind p after s = piece_spelled place (Symbol kind) p after s
