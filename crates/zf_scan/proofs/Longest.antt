-- Inside a box: what is found at the front of a text is the longest, and where nothing is found no piece fits.
use Rattle.zf_scan.proofs.Prelude.{◌++◌, ◌+◌, ◌<◌, ◌∙◌, ◌∷◌, ◌≡◌, ◌≤◌, ◌⊎◌, [], ap, append_assoc, arith, Bool, drop, false, inl, inr, length, length-append, length-drop, length-take-le, List, None, Option, refl, Some, sym, take, take-append-drop, true, ℕ, one-add, take-add, nat_tests, ◌&&◌, ◌==◌, ◌||◌, codes, StandsInside, closing, fixed, InsideKind, is_base, is_letter, is_number, is_one, is_run, is_two, IsComment, look_up, name, digits, remark, SpellsInside, unknown, symbols, base_len, begins, Match, or_else, run_len, strokes_len, symbol_len, word_len, comment_found, number_found, symbol_found, word_found, Piece, Refused, Base, Digits, Line, Strokes, is_ascii_digit, drop-append_seam}
use Rattle.zf_scan.specs.declared.fault.TextFaultKind.TheVariants as faults
use Rattle.zf_scan.proofs.Runs.{and_left, and_right, run_le, run_exact, run_all, run_within, run_len-one}
use Rattle.zf_scan.proofs.Texts.{pick, eq_is, both, taken, front_le, head_is, tail_is, begins_is, is_begun, bytes_same}
use Rattle.zf_scan.proofs.Table.{row_fits, fits_symbol, listed_fits}

-- a piece at the front of a text, where S says which piece stands before which text
pub record At (S : Piece → List ℕ → List ℕ → Type 0) (s : List ℕ) (piece : Piece) (n : ℕ) : Type 0 where
  pub some : 0 < n
  pub within : n ≤ length s
  pub stands : S piece (take n s) (drop n s)

-- the piece that was found stands there, or no piece does
abbrev pub Next : (Piece → List ℕ → List ℕ → Type 0) → List ℕ → Match → Type 0
Next S s f = At S s f.piece f.len ⊎ ((f.piece ≡ Refused faults.BadByte) × ((piece : Piece) (p after : List ℕ) → s ≡ p ++ after → S piece p after → ⊥))

-- what bounds every piece that begins the text
abbrev pub Bound : List ℕ → List ℕ → ℕ → Type 0
Bound end s n = (other : InsideKind) (piece : Piece) (r rest : List ℕ) → SpellsInside end other piece r → s ≡ r ++ rest → length r ≤ n

-- ---- first bytes

abbrev pub Heads : InsideKind → ℕ → Type 0
Heads fixed b = Unit {0}
Heads closing b = b ≡ 92
Heads remark b = b ≡ 37
Heads name b = is_letter b ≡ true
Heads digits b = is_ascii_digit b ≡ true
Heads unknown b = b ≡ 92

name_head : (base strokes rest : List ℕ) (b : ℕ) (bs : List ℕ) → is_base base ≡ true → b ∷ bs ≡ (base ++ strokes) ++ rest → is_letter b ≡ true
name_head [] strokes rest b bs h e = absurd (cc)
name_head (c ∷ cs) strokes rest b bs h e = ap is_letter (head_is b c bs ((cs ++ strokes) ++ rest) e) ∙ and_left (is_letter c) (is_run Base cs) h

pub run_head : (c : ℕ) (cs : List ℕ) → is_run Digits (c ∷ cs) ≡ true → is_ascii_digit c ≡ true
run_head c [] h = h
run_head c (d ∷ ds) h = by (is_ascii_digit c) refl
  where
    by : (t : Bool) → is_ascii_digit c ≡ t → is_ascii_digit c ≡ true
    by true e = e
    by false e = let k : false ≡ true = rw e at h in absurd (cc)

number_head : (r rest : List ℕ) (b : ℕ) (bs : List ℕ) → is_number r ≡ true → b ∷ bs ≡ r ++ rest → is_ascii_digit b ≡ true
number_head [] rest b bs h e = absurd (cc)
number_head (c ∷ cs) rest b bs h e = ap is_ascii_digit (head_is b c bs (cs ++ rest) e) ∙ run_head c cs h

pub headed : (z : List ℕ) (kind : InsideKind) (piece : Piece) (r rest : List ℕ) (b : ℕ) (bs : List ℕ) → SpellsInside (92 ∷ z) kind piece r → b ∷ bs ≡ r ++ rest → Heads kind b
headed z fixed piece r rest b bs h e = tt
headed z closing piece r rest b bs h e = head_is b 92 bs (z ++ rest) (e ∙ ap (λ r. r ++ rest) h.0)
headed z remark piece r rest b bs h e = head_is b 37 bs (h.0.0 ++ rest) (e ∙ ap (λ r. r ++ rest) h.0.1)
headed z name piece r rest b bs h e = name_head h.0 h.1 rest b bs h.3 (e ∙ ap (λ r. r ++ rest) h.2)
headed z digits piece r rest b bs h e = number_head r rest b bs h.0 e
headed z unknown piece r rest b bs h e = head_is b 92 bs (h.0.0 ++ rest) (e ∙ ap (λ r. r ++ rest) h.0.1)

-- a listed text begins with the same byte
pub record Listed (b : ℕ) (bs r rest : List ℕ) : Type 0 where
  pub more : List ℕ
  pub is : r ≡ b ∷ more
  pub behind : bs ≡ more ++ rest
  pub fits : row_fits (b ∷ more) ≡ true

pub listed_from : (r rest : List ℕ) (piece : Piece) (b : ℕ) (bs : List ℕ) → look_up r symbols ≡ Some piece → b ∷ bs ≡ r ++ rest → Listed b bs r rest
listed_from [] rest piece b bs h e = absurd (both false (listed_fits [] piece h) refl)
listed_from (c ∷ cs) rest piece b bs h e = record {
  more = cs;
  is = ap (λ c. c ∷ cs) (sym (head_is b c bs (cs ++ rest) e));
  behind = tail_is b c bs (cs ++ rest) e;
  fits = ap (λ b. row_fits (b ∷ cs)) (head_is b c bs (cs ++ rest) e) ∙ listed_fits (c ∷ cs) piece h;
}

letter_not_digit : (b : ℕ) → is_letter b ≡ true → is_ascii_digit b ≡ true → ⊥
letter_not_digit b e f = grind (arith, nat_tests)

pub spelled_some : (z : List ℕ) (kind : InsideKind) (piece : Piece) (p : List ℕ) → SpellsInside (92 ∷ z) kind piece p → 0 < length p
spelled_some z fixed piece [] h = absurd (both false (listed_fits [] piece h) refl)
spelled_some z fixed piece (b ∷ bs) h = omega arith
spelled_some z closing piece p h = omega (arith, ap length h.0)
spelled_some z remark piece p h = omega (arith, ap length h.0.1)
spelled_some z name piece p h = base_some h.0 h.1 p h.2 h.3
  where
    base_some : (base strokes p : List ℕ) → p ≡ base ++ strokes → is_base base ≡ true → 0 < length p
    base_some [] strokes p e f = absurd (cc)
    base_some (c ∷ cs) strokes p e f = omega (arith, ap length e)
spelled_some z digits piece [] h = absurd (both false h.0 refl)
spelled_some z digits piece (b ∷ bs) h = omega arith
spelled_some z unknown piece p h = omega (arith, ap length h.0.1)

pub at_from : (z s : List ℕ) (piece : Piece) (n : ℕ) (kind : InsideKind) → n ≤ length s → SpellsInside (92 ∷ z) kind piece (take n s) → Bound (92 ∷ z) s n
    → At (StandsInside (92 ∷ z)) s piece n
at_from z s piece n kind within spells bound = record {
  some = omega (arith, spelled_some z kind piece (take n s) spells, length-take-le n s within);
  within = within;
  stands = record {
    kind = kind;
    spells = spells;
    longest = λ other q r rest t e. omega (arith, length-take-le n s within, bound other q r rest t (sym (take-append-drop n s) ∙ e));
  };
}

abbrev pub NextInside : List ℕ → List ℕ → Match → Type 0
NextInside z s f = Next (StandsInside (92 ∷ z)) s f

-- the longer text where it is listed, else what else is found
pub listed_or : (z s : List ℕ) (n : ℕ) (other : Match) → n ≤ length s → Bound (92 ∷ z) s n → (look_up (take n s) symbols ≡ None → NextInside z s other)
    → NextInside z s (or_else (look_up (take n s) symbols) n other)
listed_or z s n other within bound unlisted = by (look_up (take n s) symbols) refl
  where
    by : (o : Option Piece) → look_up (take n s) symbols ≡ o → NextInside z s (or_else o n other)
    by (Some piece) e = inl (at_from z s piece n fixed within e bound)
    by None e = unlisted e

-- ---- comments

comment_bound : (z bs : List ℕ) → Bound (92 ∷ z) (37 ∷ bs) (1 + run_len Line bs)
comment_bound z bs fixed piece r rest h e = let l = listed_from r rest piece 37 bs h e in absurd (both false l.fits refl)
comment_bound z bs closing piece r rest h e = let k = headed z closing piece r rest 37 bs h e in absurd (omega (arith, k))
comment_bound z bs remark piece r rest h e =
    let behind = tail_is 37 37 bs (h.0.0 ++ rest) (e ∙ ap (λ r. r ++ rest) h.0.1) in
    omega (arith, ap length h.0.1, run_le Line h.0.0 rest h.0.2, ap (run_len Line) behind)
comment_bound z bs name piece r rest h e = absurd (both false (headed z name piece r rest 37 bs h e) refl)
comment_bound z bs digits piece r rest h e = absurd (both false (headed z digits piece r rest 37 bs h e) refl)
comment_bound z bs unknown piece r rest h e = let k = headed z unknown piece r rest 37 bs h e in absurd (omega (arith, k))

pub comment_text : (bs : List ℕ) → IsComment (take (1 + run_len Line bs) (37 ∷ bs))
comment_text bs = (take (run_len Line bs) bs, rw one-add, run_all Line bs)

pub comment_next : (z bs : List ℕ) → NextInside z (37 ∷ bs) (comment_found (37 ∷ bs))
unfolding comment_found
comment_next z bs = inl (at_from z (37 ∷ bs) _ (1 + run_len Line bs) remark (omega (arith, run_within Line bs)) (comment_text bs, refl) (comment_bound z bs))

-- ---- numbers

pub digit_no_letter : (b : ℕ) → is_ascii_digit b ≡ true → is_letter b ≡ false
digit_no_letter b e = grind (arith, nat_tests)

pub digit_byte : (b : ℕ) → is_ascii_digit b ≡ true → ((b == 37) ≡ false) × ((b == 92) ≡ false)
digit_byte b e = (grind (arith, nat_tests), grind (arith, nat_tests))

pub digit_row : (b : ℕ) (u : List ℕ) → is_ascii_digit b ≡ true → row_fits (b ∷ u) ≡ false
digit_row b u e = let d = digit_byte b e in rw (d.0, d.1, digit_no_letter b e, e)

number_bound : (z : List ℕ) (b : ℕ) (bs : List ℕ) → is_ascii_digit b ≡ true → Bound (92 ∷ z) (b ∷ bs) (run_len Digits (b ∷ bs))
number_bound z b bs d fixed piece r rest h e = let l = listed_from r rest piece b bs h e in absurd (both (row_fits (b ∷ l.more)) l.fits (digit_row b l.more d))
number_bound z b bs d closing piece r rest h e = absurd (both false (sym (ap is_ascii_digit (headed z closing piece r rest b bs h e)) ∙ d) refl)
number_bound z b bs d remark piece r rest h e = absurd (both false (sym (ap is_ascii_digit (headed z remark piece r rest b bs h e)) ∙ d) refl)
number_bound z b bs d name piece r rest h e = absurd (letter_not_digit b (headed z name piece r rest b bs h e) d)
number_bound z b bs d digits piece [] rest h e = absurd (both false h.0 refl)
number_bound z b bs d digits piece (c ∷ cs) rest h e = omega (arith, run_le Digits (c ∷ cs) rest h.0, ap (run_len Digits) e)
number_bound z b bs d unknown piece r rest h e = absurd (both false (sym (ap is_ascii_digit (headed z unknown piece r rest b bs h e)) ∙ d) refl)

number_text : (b : ℕ) (bs : List ℕ) → is_ascii_digit b ≡ true → is_number (take (run_len Digits (b ∷ bs)) (b ∷ bs)) ≡ true
number_text b bs d =
    let long = run_len-one Digits b bs d in
    let is : take (run_len Digits (b ∷ bs)) (b ∷ bs) ≡ b ∷ take (run_len Digits bs) bs = rw (long, one-add) in
    ap is_number is ∙ sym (ap (is_run Digits) is) ∙ run_all Digits (b ∷ bs)

pub number_next : (z : List ℕ) (b : ℕ) (bs : List ℕ) → is_ascii_digit b ≡ true → NextInside z (b ∷ bs) (number_found (b ∷ bs))
unfolding number_found
number_next z b bs d =
    inl (at_from z (b ∷ bs) _ (run_len Digits (b ∷ bs)) digits (run_within Digits (b ∷ bs)) (number_text b bs d, refl) (number_bound z b bs d))

-- ---- words

pub letter_byte : (b : ℕ) → is_letter b ≡ true → ((b == 37) ≡ false) × ((b == 92) ≡ false)
letter_byte b e = (grind (arith, nat_tests), grind (arith, nat_tests))

letter_row : (b : ℕ) (u : List ℕ) → is_letter b ≡ true → row_fits (b ∷ u) ≡ is_run Base u
letter_row b u e = let d = letter_byte b e in rw (d.0, d.1, e)

pub stroke_byte : (d : ℕ) (ds : List ℕ) → is_run Strokes (d ∷ ds) ≡ true → (is_one Base d ≡ false) × ((d == 92) ≡ false)
stroke_byte d [] h = (grind (arith, nat_tests), grind (arith, nat_tests))
stroke_byte d (c ∷ cs) h = by (is_one Strokes d) refl
  where
    by : (t : Bool) → is_one Strokes d ≡ t → (is_one Base d ≡ false) × ((d == 92) ≡ false)
    by true e = (grind (arith, nat_tests), grind (arith, nat_tests))
    by false e =
        let k : (is_two Strokes d c && is_run Strokes cs) ≡ true = rw e at h in
        let w : d ≡ 95 = eq_is d 95 (and_left (d == 95) (is_ascii_digit c) (and_left (is_two Strokes d c) (is_run Strokes cs) k)) in
        (ap (is_one Base) w, ap (λ d. d == 92) w)

pub no_step : (d : ℕ) (x : List ℕ) → is_one Base d ≡ false → (d == 92) ≡ false → run_len Base (d ∷ x) ≡ 0
no_step d [] e f = rw e
no_step d (c ∷ x) e f = rw (e, f)

-- the base of a name ends where its strokes begin
base_ends : (cs strokes rest : List ℕ) → is_run Base cs ≡ true → is_run Strokes strokes ≡ true → 0 < length strokes → run_len Base (cs ++ (strokes ++ rest)) ≡ length cs
base_ends cs [] rest h k some = absurd (omega arith)
base_ends cs (d ∷ ds) rest h k some = let b = stroke_byte d ds k in run_exact Base cs (d ∷ ds ++ rest) h (no_step d (ds ++ rest) b.0 b.1)

name_bound : (b : ℕ) (bs cs strokes rest : List ℕ) → is_letter b ≡ true → is_run Base cs ≡ true → is_run Strokes strokes ≡ true → bs ≡ cs ++ (strokes ++ rest)
    → 1 + length cs + length strokes ≤ word_len (b ∷ bs)
name_bound b bs cs [] rest l h k e =
    let n : base_len (b ∷ bs) ≡ 1 + run_len Base bs = rw l in
    omega (arith, n, run_le Base cs rest h, ap (run_len Base) e)
name_bound b bs cs (d ∷ ds) rest l h k e =
    let n : base_len (b ∷ bs) ≡ 1 + length cs = rw l (ap (λ n. 1 + n) (ap (run_len Base) e ∙ base_ends cs (d ∷ ds) rest h k (omega arith))) in
    let behind : drop (base_len (b ∷ bs)) (b ∷ bs) ≡ d ∷ ds ++ rest = ap (λ n. drop n (b ∷ bs)) (n ∙ one-add (length cs)) ∙ ap (drop (length cs)) e
    ∙ drop-append_seam cs (d ∷ ds ++ rest) in
    omega (arith, n, run_le Strokes (d ∷ ds) rest k, ap (run_len Strokes) behind)

word_bound : (z : List ℕ) (b : ℕ) (bs : List ℕ) → is_letter b ≡ true → Bound (92 ∷ z) (b ∷ bs) (word_len (b ∷ bs))
word_bound z b bs l fixed piece r rest h e =
    let f = listed_from r rest piece b bs h e in
    let n : base_len (b ∷ bs) ≡ 1 + run_len Base bs = rw l in
    omega (arith, n, ap length f.is, run_le Base f.more rest (sym (letter_row b f.more l) ∙ f.fits), ap (run_len Base) f.behind)
word_bound z b bs l closing piece r rest h e = absurd (both false (sym (ap is_letter (headed z closing piece r rest b bs h e)) ∙ l) refl)
word_bound z b bs l remark piece r rest h e = absurd (both false (sym (ap is_letter (headed z remark piece r rest b bs h e)) ∙ l) refl)
word_bound z b bs l name piece r rest h e = by h.0 h.1 h.2 h.3 h.4
  where
    by : (base strokes : List ℕ) → r ≡ base ++ strokes → is_base base ≡ true → is_run Strokes strokes ≡ true → length r ≤ word_len (b ∷ bs)
    by [] strokes is f k = absurd (cc)
    by (c ∷ cs) strokes is f k =
        let all : b ∷ bs ≡ (c ∷ cs ++ strokes) ++ rest = e ∙ ap (λ r. r ++ rest) is in
        let behind : bs ≡ cs ++ (strokes ++ rest) = tail_is b c bs ((cs ++ strokes) ++ rest) all ∙ append_assoc cs strokes rest in
        omega (arith, ap length is, length-append cs strokes, name_bound b bs cs strokes rest l (and_right (is_letter c) (is_run Base cs) f) k behind)
word_bound z b bs l digits piece r rest h e = absurd (letter_not_digit b l (headed z digits piece r rest b bs h e))
word_bound z b bs l unknown piece r rest h e = absurd (both false (sym (ap is_letter (headed z unknown piece r rest b bs h e)) ∙ l) refl)

pub base_text : (b : ℕ) (bs : List ℕ) → is_letter b ≡ true → is_base (take (base_len (b ∷ bs)) (b ∷ bs)) ≡ true
base_text b bs l =
    let n : base_len (b ∷ bs) ≡ 1 + run_len Base bs = rw l in
    let is : take (base_len (b ∷ bs)) (b ∷ bs) ≡ b ∷ take (run_len Base bs) bs = ap (λ n. take n (b ∷ bs)) (n ∙ one-add (run_len Base bs)) in
    ap is_base is ∙ rw (l, run_all Base bs)

pub base_within : (s : List ℕ) → base_len s ≤ length s
base_within [] = omega arith
base_within (b ∷ bs) = pick (λ n. n ≤ length (b ∷ bs)) (is_letter b) _ _ (λ _. omega (arith, run_within Base bs)) (λ _. omega arith)

word_within : (s : List ℕ) → word_len s ≤ length s
word_within s = omega (arith, base_within s, run_within Strokes (drop (base_len s) s), length-drop (base_len s) s)

pub word_next : (z : List ℕ) (b : ℕ) (bs : List ℕ) → is_letter b ≡ true → NextInside z (b ∷ bs) (word_found (b ∷ bs))
unfolding word_found
word_next z b bs l =
    let s = b ∷ bs in
    listed_or z s (word_len s) _ (word_within s) (word_bound z b bs l) (λ unlisted. inl (at_from z s _ (word_len s) name (word_within s) (
      take (base_len s) s,
      take (strokes_len s) (drop (base_len s) s),
      take-add (base_len s) (strokes_len s) s,
      base_text b bs l,
      run_all Strokes (drop (base_len s) s),
      unlisted,
      refl,
    ) (word_bound z b bs l)))

-- ---- symbols

-- the byte begins nothing but a symbol
pub record Other (b : ℕ) : Type 0 where
  pub percent : (b == 37) ≡ false
  pub backslash : (b == 92) ≡ false
  pub letter : is_letter b ≡ false
  pub digit : is_ascii_digit b ≡ false

other_row : (b : ℕ) (u : List ℕ) → Other b → row_fits (b ∷ u) ≡ fits_symbol (b ∷ u)
other_row b u o = rw (o.percent, o.backslash, o.letter, o.digit)

pub either : {C : Type 0} (a b : Bool) → (a || b) ≡ true → (a ≡ true → C) → (b ≡ true → C) → C
either true b e on off = on refl
either false b e on off = off e

three : (s : List ℕ) → begins s (codes "::=") ≡ true → symbol_len s ≡ 3
three s e = rw e

two : (s : List ℕ) → begins s (codes "==") ≡ true → 2 ≤ symbol_len s
two s e = pick (λ n. 2 ≤ n) (begins s (codes "::=")) _ _ (λ _. omega arith) (λ _. rw e (omega arith))

one : (s : List ℕ) → 1 ≤ symbol_len s
one s = pick (λ n. 1 ≤ n) (begins s (codes "::=")) _ _ (λ _. omega arith) (λ _. pick (λ n. 1 ≤ n) (begins s (codes "==")) _ _ (λ _. omega arith) (λ _. omega arith))

symbol_lens : (s r rest : List ℕ) → s ≡ r ++ rest → fits_symbol r ≡ true → length r ≤ symbol_len s
symbol_lens s r rest e f =
    either (length r == 1) _ f
    (λ h. omega (arith, eq_is (length r) 1 h, one s))
    (λ f. either _ _ f
    (λ h. let is = bytes_same r (codes "==") h in omega (arith, ap length is, two s (is_begun s (codes "==") rest (e ∙ ap (λ r. r ++ rest) is))))
    (λ h. let is = bytes_same r (codes "::=") h in omega (arith, ap length is, three s (is_begun s (codes "::=") rest (e ∙ ap (λ r. r ++ rest) is)))))

symbol_within : (b : ℕ) (bs : List ℕ) → symbol_len (b ∷ bs) ≤ length (b ∷ bs)
symbol_within b bs =
    pick (λ n. n ≤ length (b ∷ bs)) (begins (b ∷ bs) (codes "::=")) _ _
    (λ h. front_le (b ∷ bs) (codes "::=") _ (begins_is (b ∷ bs) (codes "::=") h))
    (λ _. pick (λ n. n ≤ length (b ∷ bs)) (begins (b ∷ bs) (codes "==")) _ _
    (λ h. front_le (b ∷ bs) (codes "==") _ (begins_is (b ∷ bs) (codes "==") h))
    (λ _. omega arith))

listed_three : look_up (codes "::=") symbols ≡ None → ⊥
unfolding symbols
listed_three e = cc

listed_two : look_up (codes "==") symbols ≡ None → ⊥
unfolding symbols
listed_two e = cc

-- an unlisted symbol is one byte
symbol_none : (s : List ℕ) → look_up (take (symbol_len s) s) symbols ≡ None → symbol_len s ≡ 1
symbol_none s e = by (begins s (codes "::=")) (begins s (codes "==")) refl refl
  where
    by : (t u : Bool) → begins s (codes "::=") ≡ t → begins s (codes "==") ≡ u → symbol_len s ≡ 1
    by true u f g = absurd (listed_three (ap (λ p. look_up p symbols) (sym (ap (λ n. take n s) (three s f) ∙ taken s (codes "::=") _ 3 (begins_is s (codes "::=") f) refl)) ∙ e))
    by false true f g = let n : symbol_len s ≡ 2 = rw (f, g) in absurd (listed_two
        (ap (λ p. look_up p symbols) (sym (ap (λ n. take n s) n ∙ taken s (codes "==") _ 2 (begins_is s (codes "==") g) refl)) ∙ e))
    by false false f g = rw (f, g)

other_bound : (z : List ℕ) (b : ℕ) (bs : List ℕ) → Other b → (other : InsideKind) (piece : Piece) (r rest : List ℕ) → SpellsInside (92 ∷ z) other piece r
    → b ∷ bs ≡ r ++ rest → (look_up r symbols ≡ Some piece) × (fits_symbol r ≡ true)
other_bound z b bs o fixed piece r rest h e = let l = listed_from r rest piece b bs h e in (h, ap fits_symbol l.is ∙ sym (other_row b l.more o) ∙ l.fits)
other_bound z b bs o closing piece r rest h e = absurd (both (b == 92) (ap (λ b. b == 92) (headed z closing piece r rest b bs h e)) o.backslash)
other_bound z b bs o remark piece r rest h e = absurd (both (b == 37) (ap (λ b. b == 37) (headed z remark piece r rest b bs h e)) o.percent)
other_bound z b bs o name piece r rest h e = absurd (both (is_letter b) (headed z name piece r rest b bs h e) o.letter)
other_bound z b bs o digits piece r rest h e = absurd (both (is_ascii_digit b) (headed z digits piece r rest b bs h e) o.digit)
other_bound z b bs o unknown piece r rest h e = absurd (both (b == 92) (ap (λ b. b == 92) (headed z unknown piece r rest b bs h e)) o.backslash)

pub symbol_next : (z : List ℕ) (b : ℕ) (bs : List ℕ) → Other b → NextInside z (b ∷ bs) (symbol_found (b ∷ bs))
unfolding symbol_found
symbol_next z b bs o =
    listed_or z (b ∷ bs) (symbol_len (b ∷ bs)) _ (symbol_within b bs) bound
    (λ unlisted. inr (refl, λ piece p after e h. none unlisted h.kind piece p after h.spells e))
  where
    bound : Bound (92 ∷ z) (b ∷ bs) (symbol_len (b ∷ bs))
    bound other piece r rest h e = symbol_lens (b ∷ bs) r rest e (other_bound z b bs o other piece r rest h e).1

    none : look_up (take (symbol_len (b ∷ bs)) (b ∷ bs)) symbols ≡ None → (other : InsideKind) (piece : Piece) (r rest : List ℕ)
        → SpellsInside (92 ∷ z) other piece r → b ∷ bs ≡ r ++ rest → ⊥
    none e other piece r rest h f =
        let n = symbol_none (b ∷ bs) e in
        let l = (other_bound z b bs o other piece r rest h f).0 in
        let one : length r ≡ 1 = omega (arith, n, bound other piece r rest h f, spelled_some z other piece r h) in
        let is : take (symbol_len (b ∷ bs)) (b ∷ bs) ≡ r = taken (b ∷ bs) r rest (symbol_len (b ∷ bs)) f (one ∙ sym n) in
        let no : look_up r symbols ≡ None = ap (λ p. look_up p symbols) (sym is) ∙ e in
        cc (l, no)
