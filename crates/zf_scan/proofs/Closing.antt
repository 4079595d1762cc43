-- Inside a box: commands and the closing of the box, and all pieces together.
use Rattle.zf_scan.proofs.Prelude.{◌++◌, ◌+◌, ◌<◌, ◌∙◌, ◌∷◌, ◌≡◌, ◌≤◌, ◌⊎◌, [], ap, append_assoc, arith, Bool, drop, false, inl, inr, length, length-append, length-drop, length-take-le, List, min, None, refl, Some, subst, sym, take, take-append-drop, true, ℕ, ⊎_elim, one-add, nat_tests, ◌&&◌, ◌==◌, codes, not, closing, fixed, InsideKind, is_letter, is_run, IsCommand, look_up, name, digits, remark, SpellsInside, unknown, symbols, begins, command_len, long_len, run_len, step_len, tail_len, command_found, comment_found, inside_found, short_command, Piece, Refused, Symbol, Digits, Letters, EndBox, is_ascii_digit, drop-append_seam, StandsInside}
use Rattle.zf_scan.specs.declared.fault.TextFaultKind.TheVariants as faults
use Rattle.zf_scan.proofs.Runs.{and_left, and_right, run_le, run_exact, run_all, run_within}
use Rattle.zf_scan.proofs.Texts.{pick, eq_is, both, taken, front_le, tail_is, begins_is, is_begun}
use Rattle.zf_scan.proofs.Table.{fits_command, ends_well}
use Rattle.zf_scan.proofs.Longest.{At, Bound, at_from, NextInside, headed, listed_from, listed_or, digit_no_letter, either, comment_next, number_next, word_next, symbol_next}

-- ---- commands

letters_le : (t : List ℕ) → 1 + run_len Letters t ≤ command_len (92 ∷ t)
letters_le t = pick (λ n. 1 + run_len Letters t ≤ n) (run_len Letters t == 0) _ _ (λ h. omega (arith, eq_is (run_len Letters t) 0 h)) (λ _. omega arith)

two_le : (t : List ℕ) → 0 < length t → 2 ≤ command_len (92 ∷ t)
two_le t some = pick (λ n. 2 ≤ n) (run_len Letters t == 0) _ _ (λ h. omega arith) (λ h. grind (arith, nat_tests))

command_within : (t : List ℕ) → command_len (92 ∷ t) ≤ length (92 ∷ t)
command_within t = pick (λ n. n ≤ length (92 ∷ t)) (run_len Letters t == 0) _ _ (λ _. omega arith) (λ _. omega (arith, run_within Letters t))

command_is : (t : List ℕ) → (run_len Letters t == 0) ≡ false → command_len (92 ∷ t) ≡ 1 + run_len Letters t
command_is t h = rw h

short_text : (t : List ℕ) → IsCommand (take (command_len (92 ∷ t)) (92 ∷ t))
short_text t = pick (λ n. IsCommand (take n (92 ∷ t))) (run_len Letters t == 0) _ _ (λ _. lone t) (λ _. (take (run_len Letters t) t, rw one-add, inl (run_all Letters t)))
  where
    lone : (t : List ℕ) → IsCommand (take (min (length (92 ∷ t)) 2) (92 ∷ t))
    lone [] = ([], refl, inl refl)
    lone (c ∷ cs) = let n : min (length (92 ∷ c ∷ cs)) 2 ≡ 2 = omega arith in (c ∷ [], rw n, inr refl)

digit_tail : (x : ℕ) (rest : List ℕ) → is_ascii_digit x ≡ true → tail_len (x ∷ rest) ≡ 1
digit_tail x rest d = rw (no_bar x rest d) (step x rest d)
  where
    no_bar : (x : ℕ) (rest : List ℕ) → is_ascii_digit x ≡ true → begins (x ∷ rest) (codes "_1") ≡ false
    no_bar x rest d = let n : (95 == x) ≡ false = grind (arith, nat_tests) in rw n

    step : (x : ℕ) (rest : List ℕ) → is_ascii_digit x ≡ true → step_len Digits (x ∷ rest) ≡ 1
    step x [] d = rw d
    step x (c ∷ cs) d = rw d

digit_stops : (x : ℕ) (rest : List ℕ) → is_ascii_digit x ≡ true → run_len Letters (x ∷ rest) ≡ 0
digit_stops x [] d = rw (digit_no_letter x d)
digit_stops x (c ∷ cs) d = rw (digit_no_letter x d)

-- what stands after the letters, where it is no letter
behind_letters : (w x : List ℕ) → is_run Letters w ≡ true → run_len Letters x ≡ 0 → 0 < length w → (command_len (92 ∷ w ++ x) ≡ 1 + length w) × (drop (command_len (92 ∷ w ++ x)) (92 ∷ w ++ x) ≡ x)
behind_letters w x h stop some =
    let m : run_len Letters (w ++ x) ≡ length w = run_exact Letters w x h stop in
    let c : (run_len Letters (w ++ x) == 0) ≡ false = grind (arith, nat_tests) in
    let n : command_len (92 ∷ w ++ x) ≡ 1 + length w = command_is (w ++ x) c ∙ ap (λ m. 1 + m) m in
    (n, ap (λ n. drop n (92 ∷ w ++ x)) (n ∙ one-add (length w)) ∙ drop-append_seam w x)

long_is : (w x : List ℕ) → is_run Letters w ≡ true → run_len Letters x ≡ 0 → 0 < length w → long_len (92 ∷ w ++ x) ≡ 1 + length w + tail_len x
long_is w x h stop some = let b = behind_letters w x h stop some in omega (arith, b.0, ap tail_len b.1)

abbrev Reaches : List ℕ → List ℕ → Type 0
Reaches u t = (1 + length u ≤ command_len (92 ∷ t)) ⊎ (1 + length u ≡ long_len (92 ∷ t))

-- u is w with x after it
fits_by : (w x u rest t : List ℕ) → t ≡ w ++ (x ++ rest) → length u ≡ length w + length x → is_run Letters w ≡ true → ends_well (length w) x ≡ true → Reaches u t
fits_by w [] u rest t e n h g = inl (omega (arith, n, run_le Letters w rest h, ap (run_len Letters) e, letters_le t))
fits_by w (x ∷ []) u rest t e n h g = by (length w == 0) refl
  where
    all : length t ≡ length w + (1 + length rest)
    all = ap length e ∙ length-append w (x ∷ rest) ∙ omega arith

    by : (z : Bool) → (length w == 0) ≡ z → Reaches u t
    by true z = inl (omega (arith, n, eq_is (length w) 0 z, two_le t (omega (arith, all))))
    by false z =
        let d : is_ascii_digit x ≡ true = either (length w == 0) (is_ascii_digit x) g (λ y. absurd (both (length w == 0) y z)) (λ d. d) in
        let some : 0 < length w = grind (arith, nat_tests) in
        inr (omega (arith, n, long_is w (x ∷ rest) h (digit_stops x rest d) some, digit_tail x rest d, ap (λ t. long_len (92 ∷ t)) e))
fits_by w (x ∷ y ∷ []) u rest t e n h g =
    let some : 0 < length w = not_zero (length w) (and_left (not (length w == 0)) (x == 95 && y == 49) g) in
    let bar : x ≡ 95 = eq_is x 95 (and_left (x == 95) (y == 49) (and_right (not (length w == 0)) (x == 95 && y == 49) g)) in
    let one : y ≡ 49 = eq_is y 49 (and_right (x == 95) (y == 49) (and_right (not (length w == 0)) (x == 95 && y == 49) g)) in
    let is : t ≡ w ++ (95 ∷ 49 ∷ rest) = e ∙ ap (λ x. w ++ (x ∷ y ∷ rest)) bar ∙ ap (λ y. w ++ (95 ∷ y ∷ rest)) one in
    let long : long_len (92 ∷ w ++ (95 ∷ 49 ∷ rest)) ≡ 1 + length w + 2 = long_is w (95 ∷ 49 ∷ rest) h refl some in
    inr (omega (arith, n, long, ap (λ t. long_len (92 ∷ t)) is))
  where
    not_zero : (n : ℕ) → not (n == 0) ≡ true → 0 < n
    not_zero n h = grind (arith, nat_tests)
fits_by w (x ∷ y ∷ z ∷ xs) u rest t e n h g = absurd (both false g refl)

fits_len : (u rest t : List ℕ) → t ≡ u ++ rest → fits_command u ≡ true → Reaches u t
fits_len u rest t e f =
    let m = run_len Letters u in
    let long : length (take m u) ≡ m = length-take-le m u (run_within Letters u) in
    let parts = take-append-drop m u in
    fits_by (take m u) (drop m u) u rest t (e ∙ ap (λ u. u ++ rest) (sym parts) ∙ append_assoc (take m u) (drop m u) rest)
    (ap length (sym parts) ∙ length-append (take m u) (drop m u)) (run_all Letters u) (ap (λ m. ends_well m (drop (run_len Letters u) u)) long ∙ f)

pub tail_within : (s : List ℕ) → tail_len s ≤ length s
tail_within s = pick (λ n. n ≤ length s) (begins s (codes "_1")) _ _ (λ h. front_le s (codes "_1") _ (begins_is s (codes "_1") h)) (λ _. step_within s)
  where
    step_within : (s : List ℕ) → step_len Digits s ≤ length s
    step_within [] = omega arith
    step_within (b ∷ []) = pick (λ n. n ≤ length (b ∷ [])) (is_ascii_digit b) _ _ (λ _. omega arith) (λ _. omega arith)
    step_within (b ∷ c ∷ cs) = pick (λ n. n ≤ length (b ∷ c ∷ cs)) (is_ascii_digit b) _ _ (λ _. omega arith) (λ _. omega arith)

long_within : (t : List ℕ) → long_len (92 ∷ t) ≤ length (92 ∷ t)
long_within t = omega (arith, command_within t, tail_within (drop (command_len (92 ∷ t)) (92 ∷ t)), length-drop (command_len (92 ∷ t)) (92 ∷ t))

unknown_bound : (r rest t : List ℕ) → IsCommand r → 92 ∷ t ≡ r ++ rest → length r ≤ command_len (92 ∷ t)
unknown_bound r rest t h e =
    let behind : t ≡ h.0 ++ rest = tail_is 92 92 t (h.0 ++ rest) (e ∙ ap (λ r. r ++ rest) h.1) in
    ⊎_elim (λ k. omega (arith, ap length h.1, run_le Letters h.0 rest k, ap (run_len Letters) behind, letters_le t))
    (λ k. omega (arith, ap length h.1, two_le t (omega (arith, ap length behind, length-append h.0 rest)))) h.2

-- every piece at a backslash
abbrev AtBackslash : List ℕ → List ℕ → List ℕ → Piece → Type 0
AtBackslash z t r piece =
    (length r ≤ command_len (92 ∷ t))
    ⊎ (((length r ≡ long_len (92 ∷ t)) × (look_up r symbols ≡ Some piece))
    ⊎ ((length r ≡ length (92 ∷ z)) × (begins (92 ∷ t) (92 ∷ z) ≡ true)))

at_backslash : (z t : List ℕ) (other : InsideKind) (piece : Piece) (r rest : List ℕ) → SpellsInside (92 ∷ z) other piece r → 92 ∷ t ≡ r ++ rest → AtBackslash z t r piece
at_backslash z t fixed piece r rest h e =
    let l = listed_from r rest piece 92 t h e in
    ⊎_elim (λ k. inl (omega (arith, ap length l.is, k))) (λ k. inr (inl (ap length l.is ∙ omega (arith, k), h))) (fits_len l.more rest t l.behind l.fits)
at_backslash z t closing piece r rest h e = inr (inr (ap length h.0, is_begun (92 ∷ t) (92 ∷ z) rest (e ∙ ap (λ r. r ++ rest) h.0)))
at_backslash z t remark piece r rest h e = let k = headed z remark piece r rest 92 t h e in absurd (omega (arith, k))
at_backslash z t name piece r rest h e = absurd (both false (headed z name piece r rest 92 t h e) refl)
at_backslash z t digits piece r rest h e = absurd (both false (headed z digits piece r rest 92 t h e) refl)
at_backslash z t unknown piece r rest h e = inl (unknown_bound r rest t h.0 e)

-- where the longer text is listed
long_bound : (z t : List ℕ) → begins (92 ∷ t) (92 ∷ z) ≡ false → Bound (92 ∷ z) (92 ∷ t) (long_len (92 ∷ t))
long_bound z t unclosed other piece r rest h e =
    ⊎_elim (λ k. omega (arith, k)) (λ k. ⊎_elim (λ k. omega (arith, k.0)) (λ k. absurd (both (begins (92 ∷ t) (92 ∷ z)) k.1 unclosed)) k) (at_backslash z t other piece r rest h e)

-- where it is not
short_bound : (z t : List ℕ) → begins (92 ∷ t) (92 ∷ z) ≡ false → look_up (take (long_len (92 ∷ t)) (92 ∷ t)) symbols ≡ None → Bound (92 ∷ z) (92 ∷ t) (command_len (92 ∷ t))
short_bound z t unclosed none other piece r rest h e =
    ⊎_elim (λ k. k) (λ k. ⊎_elim (λ k.
    let is : take (long_len (92 ∷ t)) (92 ∷ t) ≡ r = taken (92 ∷ t) r rest (long_len (92 ∷ t)) e k.0 in
    let unlisted : look_up r symbols ≡ None = ap (λ p. look_up p symbols) (sym is) ∙ none in
    absurd (cc (k.1, unlisted))) (λ k. absurd (both (begins (92 ∷ t) (92 ∷ z)) k.1 unclosed)) k)
    (at_backslash z t other piece r rest h e)

short_at : (z t : List ℕ) → Bound (92 ∷ z) (92 ∷ t) (command_len (92 ∷ t)) → NextInside z (92 ∷ t) (short_command (92 ∷ t) (command_len (92 ∷ t)))
unfolding short_command
short_at z t bound = listed_or z (92 ∷ t) (command_len (92 ∷ t)) _ (command_within t) bound
    (λ e. inl (at_from z (92 ∷ t) (Refused faults.UnknownCommand) (command_len (92 ∷ t)) unknown (command_within t) (short_text t, e, refl) bound))

-- the closing of a box is longer than any command
abbrev pub Closes : List ℕ → Type 0
Closes z = (rest : List ℕ) → long_len (92 ∷ z ++ rest) ≤ length (92 ∷ z)

closing_bound : (z t : List ℕ) → Closes z → begins (92 ∷ t) (92 ∷ z) ≡ true → Bound (92 ∷ z) (92 ∷ t) (length (92 ∷ z))
closing_bound z t closes yet other piece r rest h e =
    let is = begins_is (92 ∷ t) (92 ∷ z) yet in
    let long = ap long_len is in
    ⊎_elim (λ k. omega (arith, k, long, closes (drop (length (92 ∷ z)) (92 ∷ t))))
    (λ k. ⊎_elim (λ k. omega (arith, k.0, long, closes (drop (length (92 ∷ z)) (92 ∷ t)))) (λ k. omega (arith, k.0)) k)
    (at_backslash z t other piece r rest h e)

closing_at : (z t : List ℕ) → Closes z → begins (92 ∷ t) (92 ∷ z) ≡ true → At (StandsInside (92 ∷ z)) (92 ∷ t) (Symbol EndBox) (length (92 ∷ z))
closing_at z t closes e =
    let is = begins_is (92 ∷ t) (92 ∷ z) e in
    at_from z (92 ∷ t) (Symbol EndBox) (length (92 ∷ z)) closing (front_le (92 ∷ t) (92 ∷ z) _ is)
    (taken (92 ∷ t) (92 ∷ z) _ (length (92 ∷ z)) is refl, refl) (closing_bound z t closes e)

command_next : (z t : List ℕ) → Closes z → NextInside z (92 ∷ t) (command_found (92 ∷ z) (92 ∷ t))
unfolding command_found
command_next z t closes = pick (NextInside z (92 ∷ t)) (begins (92 ∷ t) (92 ∷ z)) _ _ (λ e. inl (closing_at z t closes e))
    (λ unclosed. listed_or z (92 ∷ t) (long_len (92 ∷ t)) _ (long_within t) (long_bound z t unclosed) (λ e. short_at z t (short_bound z t unclosed e)))

-- ---- all

pub inside_next : (z s : List ℕ) → Closes z → 0 < length s → NextInside z s (inside_found (92 ∷ z) s)
unfolding inside_found
inside_next z [] closes some = absurd (omega arith)
inside_next z (b ∷ bs) closes some =
    pick (NextInside z (b ∷ bs)) (b == 37) _ _ (λ e. subst (λ b. NextInside z (b ∷ bs) (comment_found (b ∷ bs))) (sym (eq_is b 37 e)) (comment_next z bs))
    (λ percent. pick (NextInside z (b ∷ bs)) (b == 92) _ _ (λ e. subst (λ b. NextInside z (b ∷ bs) (command_found (92 ∷ z) (b ∷ bs))) (sym (eq_is b 92 e))
    (command_next z bs closes))
    (λ backslash. pick (NextInside z (b ∷ bs)) (is_letter b) _ _ (λ e. word_next z b bs e)
    (λ letter. pick (NextInside z (b ∷ bs)) (is_ascii_digit b) _ _ (λ e. number_next z b bs e)
    (λ digit. symbol_next z b bs (record { percent = percent; backslash = backslash; letter = letter; digit = digit })))))

pub zed_next : (s : List ℕ) → 0 < length s → NextInside (codes "end{zed}") s (inside_found (codes "\\end{zed}") s)
zed_next s some = inside_next (codes "end{zed}") s (λ rest. omega arith) some

pub schema_next : (s : List ℕ) → 0 < length s → NextInside (codes "end{schema}") s (inside_found (codes "\\end{schema}") s)
schema_next s some = inside_next (codes "end{schema}") s (λ rest. omega arith) some
