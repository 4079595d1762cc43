-- The tables: what holds of each row holds of what is looked up.
use Rattle.zf_scan.proofs.Prelude.{◌∙◌, ◌∷◌, ◌≡◌, [], ap, Bool, drop, false, length, List, None, Option, refl, Some, sym, true, ℕ, list_all, if◌then◌else◌, ◌&&◌, ◌==◌, ◌||◌, codes, not, bytes_eq, is_letter, is_run, look_up, symbols, run_len, Piece, Base, Letters, is_ascii_digit, ◌<◌, arith, slice_index_or, subst}
use Rattle.zf_scan.proofs.Runs.{and_left, and_right}
use Rattle.zf_scan.proofs.Texts.{both, bytes_same}

pub hit : (test : List ℕ → Piece → Bool) (rows : List (List ℕ × Piece)) (p : List ℕ) (piece : Piece) → list_all (λ row. test row.0 row.1) rows ≡ true
    → look_up p rows ≡ Some piece → test p piece ≡ true
hit test [] p piece all e = absurd (cc)
hit test (row ∷ rows) p piece all e =
    by (bytes_eq p row.0) refl (hit test rows p piece (and_right (test row.0 row.1) (list_all (λ row. test row.0 row.1) rows) all))
  where
    by : (t : Bool) → bytes_eq p row.0 ≡ t → (look_up p rows ≡ Some piece → test p piece ≡ true) → test p piece ≡ true
    by true f more =
        let g : Some row.1 ≡ Some piece = rw f at e in
        let same : row.1 ≡ piece = cc g in
        ap (λ p. test p piece) (bytes_same p row.0 f) ∙ ap (test row.0) (sym same) ∙ and_left (test row.0 row.1) (list_all (λ row. test row.0 row.1) rows) all
    by false f more = let g : look_up p rows ≡ Some piece = rw f at e in more g

-- a text that fails the test is none of the rows
pub missed : (test : List ℕ → Bool) (rows : List (List ℕ × Piece)) (p : List ℕ) → list_all (λ row. test row.0) rows ≡ true → test p ≡ false
    → look_up p rows ≡ None
missed test rows p all f = by (look_up p rows) refl
  where
    by : (o : Option Piece) → look_up p rows ≡ o → look_up p rows ≡ None
    by (Some piece) e = both (test p) (hit (λ p _. test p) rows p piece all e) f
    by None e = e

-- ---- the rows of symbols

-- what stands after the letters of a command: nothing, one byte, `_1`
abbrev pub ends_well : ℕ → List ℕ → Bool
ends_well m [] = true
ends_well m (x ∷ []) = m == 0 || is_ascii_digit x
ends_well m (x ∷ y ∷ []) = not (m == 0) && (x == 95 && y == 49)
ends_well m (x ∷ y ∷ z ∷ xs) = false

abbrev pub fits_command : List ℕ → Bool
fits_command u = ends_well (run_len Letters u) (drop (run_len Letters u) u)

abbrev pub fits_symbol : List ℕ → Bool
fits_symbol p = length p == 1 || (bytes_eq p (codes "==") || bytes_eq p (codes "::="))

abbrev pub row_fits : List ℕ → Bool
row_fits [] = false
row_fits (b ∷ u) =
    if b == 37 then false
    else (if b == 92 then fits_command u
    else (if is_letter b then is_run Base u
    else (if is_ascii_digit b then false else fits_symbol (b ∷ u))))

pub all_fit : list_all (λ row. row_fits row.0) symbols ≡ true
unfolding symbols
all_fit = refl

pub listed_fits : (p : List ℕ) (piece : Piece) → look_up p symbols ≡ Some piece → row_fits p ≡ true
listed_fits p piece e = hit (λ p _. row_fits p) symbols p piece all_fit e

-- no text at all, and a backslash alone
pub empty_unlisted : (s : List ℕ) → length s < 1 → None ≡ look_up s symbols
unfolding symbols
empty_unlisted [] h = refl
empty_unlisted (b ∷ s) h = absurd (omega arith)

pub lone_unlisted : (s : List ℕ) → length s < 2 → slice_index_or s 0 0 ≡ 92 → None ≡ look_up s symbols
unfolding symbols
lone_unlisted [] h e = refl
lone_unlisted (b ∷ []) h e = subst (λ b. None ≡ look_up (b ∷ []) symbols) (sym e) refl
lone_unlisted (b ∷ c ∷ s) h e = absurd (omega arith)
