-- One piece stands at a place.
use Rattle.zf_scan.proofs.Prelude.{◌++◌, ◌+◌, ◌<◌, ◌∙◌, ◌∷◌, ◌≡◌, ◌≤◌, ◌⊎◌, [], ap, arith, Bool, drop, false, inl, inr, length, length-append, List, None, refl, Some, sym, take, true, unwrap_or, ℕ, ⊎_elim, one-add, bytes_decides, if◌then◌else◌, ◌==◌, codes, bytes_eq, Stands, StandsInside, StandsOutside, comment, InsideKind, is_base, is_letter, is_number, is_run, look_up, number_piece, OutsideKind, SpellsInside, SpellsOutside, turn, openings, symbols, base_len, run_len, Piece, Plain, Refused, Symbol, Region, Base, Letters, Strokes, BeginSchema, EndBox, Name, is_ascii_digit, nat_le, nat_tests, take-append_seam, drop-append_seam}
use Rattle.zf_scan.specs.declared.fault.TextFaultKind.TheVariants as faults
use Rattle.zf_scan.specs.declared.pieces.Region.TheVariants as places
use Rattle.zf_scan.specs.Pieces
use Rattle.zf_scan.proofs.Runs.{and_left, and_right, run_exact}
use Rattle.zf_scan.proofs.Texts.{both, fronts, bytes_same}
use Rattle.zf_scan.proofs.Table.{all_fit, missed, row_fits}
use Rattle.zf_scan.proofs.Longest.{letter_byte, digit_byte, digit_no_letter, digit_row, run_head, stroke_byte, no_step, spelled_some}
use Rattle.zf_scan.proofs.First.{named}

-- ---- inside

spelled : List ℕ → Piece
spelled [] = Plain
spelled (b ∷ bs) =
    if b == 37 then comment (b ∷ bs)
    else (if is_letter b then Symbol (Name (take (base_len (b ∷ bs)) (b ∷ bs)) (drop (base_len (b ∷ bs)) (b ∷ bs)))
    else (if is_ascii_digit b then number_piece (b ∷ bs) else Refused faults.UnknownCommand))

meaning : List ℕ → List ℕ → Piece
meaning end p = unwrap_or (look_up p symbols) (if bytes_eq p end then Symbol EndBox else spelled p)

-- what the closing of a box is not
pub record Closer (z : List ℕ) : Type 0 where
  pub unlisted : look_up (92 ∷ z) symbols ≡ None
  pub letters : is_run Letters z ≡ false
  pub long : 1 < length z

-- the steps of `meaning`
listed_is : (end p : List ℕ) (piece : Piece) → look_up p symbols ≡ Some piece → meaning end p ≡ piece
unfolding meaning
listed_is end p piece h = rw h

unlisted_is : (end p : List ℕ) → look_up p symbols ≡ None → meaning end p ≡ (if bytes_eq p end then Symbol EndBox else spelled p)
unfolding meaning
unlisted_is end p h = rw h

other_is : (z : List ℕ) (c : ℕ) (cs : List ℕ) → (c == 92) ≡ false → (if bytes_eq (c ∷ cs) (92 ∷ z) then Symbol EndBox else spelled (c ∷ cs)) ≡ spelled (c ∷ cs)
other_is z c cs h = rw h

letter_is : (c : ℕ) (cs : List ℕ) → (c == 37) ≡ false → is_letter c ≡ true → spelled (c ∷ cs) ≡ Symbol (Name (take (base_len (c ∷ cs)) (c ∷ cs)) (drop (base_len (c ∷ cs)) (c ∷ cs)))
unfolding spelled
letter_is c cs h l = pick_true (c == 37) h _ _ _ (pick_false (is_letter c) l _ _ _ refl)
  where
    pick_true : {X : Type 0} (t : Bool) → t ≡ false → (x y z : X) → y ≡ z → (if t then x else y) ≡ z
    pick_true true e x y z f = both true refl e
    pick_true false e x y z f = f

    pick_false : {X : Type 0} (t : Bool) → t ≡ true → (x y z : X) → x ≡ z → (if t then x else y) ≡ z
    pick_false true e x y z f = f
    pick_false false e x y z f = both false e refl

digit_is : (c : ℕ) (cs : List ℕ) → (c == 37) ≡ false → is_ascii_digit c ≡ true → spelled (c ∷ cs) ≡ number_piece (c ∷ cs)
unfolding spelled
digit_is c cs h d = rw (h, digit_no_letter c d, d)

unknown_is : (w : List ℕ) → spelled (92 ∷ w) ≡ Refused faults.UnknownCommand
unfolding spelled
unknown_is w = refl

comment_is : (cs : List ℕ) → spelled (37 ∷ cs) ≡ comment (37 ∷ cs)
unfolding spelled
comment_is cs = refl

strokes_stop : (strokes : List ℕ) → is_run Strokes strokes ≡ true → run_len Base strokes ≡ 0
strokes_stop [] h = refl
strokes_stop (d ∷ ds) h = let b = stroke_byte d ds h in no_step d ds b.0 b.1

name_told : (z base strokes p : List ℕ) → p ≡ base ++ strokes → is_base base ≡ true → is_run Strokes strokes ≡ true → look_up p symbols ≡ None → Symbol (Name base strokes) ≡ meaning (92 ∷ z) p
name_told z [] strokes p e f g h = absurd (cc)
name_told z (c ∷ cs) strokes p e f g h = of_name (sym (ap (λ p. look_up p symbols) e) ∙ h) ∙ sym (ap (meaning (92 ∷ z)) e)
  where
    letter : is_letter c ≡ true
    letter = and_left (is_letter c) (is_run Base cs) f

    long : base_len (c ∷ cs ++ strokes) ≡ length (c ∷ cs)
    long = rw letter (ap (λ n. 1 + n) (run_exact Base cs strokes (and_right (is_letter c) (is_run Base cs) f) (strokes_stop strokes g)) ∙ one-add (length cs))

    of_name : look_up (c ∷ cs ++ strokes) symbols ≡ None → Symbol (Name (c ∷ cs) strokes) ≡ meaning (92 ∷ z) (c ∷ cs ++ strokes)
    of_name h = sym (unlisted_is (92 ∷ z) (c ∷ cs ++ strokes) h ∙ other_is z c (cs ++ strokes) (letter_byte c letter).1 ∙ letter_is c (cs ++ strokes) (letter_byte c letter).0 letter
        ∙ ap (λ n. Symbol (Name (take n (c ∷ cs ++ strokes)) (drop n (c ∷ cs ++ strokes)))) long
        ∙ ap (λ a. Symbol (Name a (drop (length (c ∷ cs)) (c ∷ cs ++ strokes)))) (take-append_seam (c ∷ cs) strokes)
        ∙ ap (λ b. Symbol (Name (c ∷ cs) b)) (drop-append_seam (c ∷ cs) strokes))

closing_told : (z : List ℕ) → Closer z → meaning (92 ∷ z) (92 ∷ z) ≡ Symbol EndBox
closing_told z closer = unlisted_is (92 ∷ z) (92 ∷ z) closer.unlisted ∙ itself
  where
    itself : (if bytes_eq (92 ∷ z) (92 ∷ z) then Symbol EndBox else spelled (92 ∷ z)) ≡ Symbol EndBox
    itself = let e : bytes_eq (92 ∷ z) (92 ∷ z) ≡ true = (bytes_decides (92 ∷ z) (92 ∷ z)).1 refl in rw e

number_told : (z p : List ℕ) → is_number p ≡ true → meaning (92 ∷ z) p ≡ number_piece p
number_told z [] h = absurd (cc)
number_told z (c ∷ cs) h =
    let d = run_head c cs h in
    unlisted_is (92 ∷ z) (c ∷ cs) (missed row_fits symbols (c ∷ cs) all_fit (digit_row c cs d)) ∙ other_is z c cs (digit_byte c d).1 ∙ digit_is c cs
    (digit_byte c d).0 d

command_differs : (z w : List ℕ) → Closer z → (is_run Letters w ≡ true) ⊎ (length w ≡ 1) → bytes_eq w z ≡ false
command_differs z w closer h = by (bytes_eq w z) refl
  where
    by : (t : Bool) → bytes_eq w z ≡ t → bytes_eq w z ≡ false
    by true e = let is = bytes_same w z e in ⊎_elim (λ k. both _ (sym (ap (is_run Letters) is) ∙ k) closer.letters) (λ k. absurd (omega (arith, k, ap length is, closer.long))) h
    by false e = e

unknown_told : (z w : List ℕ) → Closer z → (is_run Letters w ≡ true) ⊎ (length w ≡ 1) → look_up (92 ∷ w) symbols ≡ None → meaning (92 ∷ z) (92 ∷ w) ≡ Refused faults.UnknownCommand
unknown_told z w closer h none = unlisted_is (92 ∷ z) (92 ∷ w) none ∙ apart
  where
    apart : (if bytes_eq (92 ∷ w) (92 ∷ z) then Symbol EndBox else spelled (92 ∷ w)) ≡ Refused faults.UnknownCommand
    apart = let e = command_differs z w closer h in rw e (unknown_is w)

told_inside : (z : List ℕ) → Closer z → (kind : InsideKind) (piece : Piece) (p : List ℕ) → SpellsInside (92 ∷ z) kind piece p → piece ≡ meaning (92 ∷ z) p
told_inside z closer Pieces.fixed piece p h = sym (listed_is (92 ∷ z) p piece h)
told_inside z closer Pieces.closing piece p h = h.1 ∙ sym (ap (meaning (92 ∷ z)) h.0 ∙ closing_told z closer)
told_inside z closer InsideKind.remark piece p h = h.1 ∙ ap comment h.0.1
    ∙ sym (ap (meaning (92 ∷ z)) h.0.1 ∙ unlisted_is (92 ∷ z) (37 ∷ h.0.0) (missed row_fits symbols (37 ∷ h.0.0) all_fit refl) ∙ other_is z 37 h.0.0 refl
    ∙ comment_is h.0.0)
told_inside z closer Pieces.name piece p h = h.6 ∙ name_told z h.0 h.1 p h.2 h.3 h.4 h.5
told_inside z closer Pieces.digits piece p h = h.1 ∙ sym (number_told z p h.0)
told_inside z closer Pieces.unknown piece p h = h.2 ∙ sym (ap (meaning (92 ∷ z)) h.0.1 ∙ unknown_told z h.0.0 closer h.0.2 (sym (ap (λ p. look_up p symbols) h.0.1) ∙ h.1))

-- ---- outside

meaning_outside : ℕ → List ℕ → Piece
meaning_outside t p =
    if t == 1 then unwrap_or (look_up p openings) (Symbol (BeginSchema (take (base_len (drop 15 p)) (drop 15 p))))
    else (if t == 3 then comment p else Plain)

unopened : (p : List ℕ) → 14 < length p → look_up p openings ≡ None
unfolding openings
unopened p h = missed (λ p. nat_le (length p) 14) openings p refl (grind (arith, nat_tests))

told_outside : (kind : OutsideKind) (piece : Piece) (p : List ℕ) → SpellsOutside kind piece p → piece ≡ meaning_outside (turn kind) p
unfolding meaning_outside
told_outside Pieces.opening piece p h = let e : look_up p openings ≡ Some piece = h in rw e
told_outside Pieces.schema_opening piece p h =
    let behind : drop 15 p ≡ h.0 ++ 125 ∷ [] = ap (drop 15) h.1 in
    let n = named h.0 [] h.2 h.3 in
    let front : take (base_len (drop 15 p)) (drop 15 p) ≡ h.0 = ap (λ t. take (base_len t) t) behind ∙ ap (λ k. take k (h.0 ++ 125 ∷ [])) n.0
    ∙ take-append_seam h.0 (125 ∷ []) in
    let e : look_up p openings ≡ None = unopened p (omega (arith, ap length h.1, length-append h.0 (125 ∷ []))) in
    rw e (h.4 ∙ ap (λ name. Symbol (BeginSchema name)) (sym front))
told_outside Pieces.escape piece p h = h.1
told_outside OutsideKind.remark piece p h = h.1
told_outside Pieces.informal piece p h = h.1

-- ---- at a place

pub record IsSame (x y : Piece) (p q a b : List ℕ) : Type 0 where
  pub text : p ≡ q
  pub behind : a ≡ b
  pub piece : x ≡ y

same_inside : (z : List ℕ) → Closer z → (x y : Piece) (p q a b : List ℕ) → StandsInside (92 ∷ z) x p a → StandsInside (92 ∷ z) y q b → p ++ a ≡ q ++ b → IsSame x y p q a b
same_inside z closer x y p q a b s t e =
    let le = s.longest t.kind y q b t.spells e in
    let ge = t.longest s.kind x p a s.spells (sym e) in
    let f = fronts p q a b (omega arith) e in
    record { text = f.0; behind = f.1; piece = told_inside z closer s.kind x p s.spells ∙ ap (meaning (92 ∷ z)) f.0 ∙ sym (told_inside z closer t.kind y q t.spells) }

turns : (m n k l : ℕ) → (m < n) ⊎ ((m ≡ n) × (k ≤ l)) → (n < m) ⊎ ((n ≡ m) × (l ≤ k)) → (m ≡ n) × (k ≡ l)
turns m n k l (inl h) (inl g) = absurd (omega arith)
turns m n k l (inl h) (inr g) = absurd (omega (arith, g.0))
turns m n k l (inr h) (inl g) = absurd (omega (arith, h.0))
turns m n k l (inr h) (inr g) = (h.0, omega (arith, h.1, g.1))

same_outside : (x y : Piece) (p q a b : List ℕ) → StandsOutside x p a → StandsOutside y q b → p ++ a ≡ q ++ b → IsSame x y p q a b
same_outside x y p q a b s t e =
    let k = turns _ _ _ _ (s.first t.kind y q b t.spells e) (t.first s.kind x p a s.spells (sym e)) in
    let f = fronts p q a b (sym k.1) e in
    record { text = f.0; behind = f.1; piece = told_outside s.kind x p s.spells ∙ ap (λ t. meaning_outside t p) k.0 ∙ ap (meaning_outside (turn t.kind)) f.0 ∙ sym (told_outside t.kind y q t.spells) }

zed_closer : Closer (codes "end{zed}")
unfolding symbols
zed_closer = record { unlisted = refl; letters = refl; long = omega arith }

schema_closer : Closer (codes "end{schema}")
unfolding symbols
schema_closer = record { unlisted = refl; letters = refl; long = omega arith }

pub same : (place : Region) (x y : Piece) (p q a b : List ℕ) → Stands place x p a → Stands place y q b → p ++ a ≡ q ++ b → IsSame x y p q a b
same places.Outside x y p q a b s t e = same_outside x y p q a b s t e
same (places.Zed span) x y p q a b s t e = same_inside (codes "end{zed}") zed_closer x y p q a b s t e
same (places.Schema span) x y p q a b s t e = same_inside (codes "end{schema}") schema_closer x y p q a b s t e

-- ---- a piece is a text

unopened_empty : (piece : Piece) → look_up [] openings ≡ Some piece → ⊥
unfolding openings
unopened_empty piece h = cc

outside_some : (kind : OutsideKind) (piece : Piece) (p : List ℕ) → SpellsOutside kind piece p → 0 < length p
outside_some Pieces.opening piece [] h = absurd (unopened_empty piece h)
outside_some Pieces.opening piece (b ∷ bs) h = omega arith
outside_some Pieces.schema_opening piece p h = omega (arith, ap length h.1)
outside_some Pieces.escape piece p h = ⊎_elim (λ k. omega (arith, ap length k)) (λ k. omega (arith, ap length k.1)) h.0
outside_some OutsideKind.remark piece p h = omega (arith, ap length h.0.1)
outside_some Pieces.informal piece p h = omega (arith, h.0)

pub stands_some : (place : Region) (x : Piece) (p a : List ℕ) → Stands place x p a → 0 < length p
stands_some places.Outside x p a s = outside_some s.kind x p s.spells
stands_some (places.Zed span) x p a s = spelled_some (codes "end{zed}") s.kind x p s.spells
stands_some (places.Schema span) x p a s = spelled_some (codes "end{schema}") s.kind x p s.spells
