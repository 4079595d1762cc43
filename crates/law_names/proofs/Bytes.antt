-- A name is spelled by the bytes of a name.
use Rattle.law_names.proofs.Prelude.{◌||◌, ◌++◌, ◌∙◌, ◌∷◌, ◌≡◌, [], arith, Bool, false, length-append, List, refl, subst, sym, true, ℕ, list_all, ◌&&◌, ◌==◌, and_left, and_right, eq_is, is_in_name, IsName, is_base, is_letter, is_one, is_run, is_two, list_all-append}
use Rattle.zf_scan.specs.declared.pieces.Run.{Run}
use Rattle.zf_scan.specs.declared.pieces.Run.TheVariants.{Base, Strokes}
use Rattle.std.specs.Char.{is_ascii_digit}
use Rattle.zf_scan.proofs.Longest.{either}

-- one of seven, of which the first or the second holds
first_of_seven : (l d a b c e f : Bool) → l ≡ true → (l || d || a || b || c || e || f) ≡ true
first_of_seven true d a b c e f h = refl
first_of_seven false d a b c e f h = absurd (cc)

second_of_seven : (l d a b c e f : Bool) → d ≡ true → (l || d || a || b || c || e || f) ≡ true
second_of_seven true d a b c e f h = refl
second_of_seven false true a b c e f h = refl
second_of_seven false false a b c e f h = absurd (cc)

letter_named : (b : ℕ) → is_letter b ≡ true → is_in_name b ≡ true
letter_named b h = first_of_seven (is_letter b) (is_ascii_digit b) (b == 33) (b == 39) (b == 63) (b == 92) (b == 95) h

digit_named : (b : ℕ) → is_ascii_digit b ≡ true → is_in_name b ≡ true
digit_named b h = second_of_seven (is_letter b) (is_ascii_digit b) (b == 33) (b == 39) (b == 63) (b == 92) (b == 95) h

-- this byte is that of a name, and so is an equal one
byte_named : (b c : ℕ) → is_in_name c ≡ true → (b == c) ≡ true → is_in_name b ≡ true
byte_named b c named h = subst (λ b. is_in_name b ≡ true) (sym (eq_is b c h)) named

-- the parts of a run are bytes of names
record IsNamed (run : Run) : Type 0 where
  one : (b : ℕ) → is_one run b ≡ true → is_in_name b ≡ true
  two : (b c : ℕ) → is_two run b c ≡ true → (is_in_name b ≡ true) × (is_in_name c ≡ true)

base_named : IsNamed Base
base_named =
    record {
      one = λ b h. either (is_letter b) (is_ascii_digit b) h (letter_named b) (digit_named b);
      two = λ b c h. (byte_named b 92 refl (and_left (b == 92) (c == 95) h), byte_named c 95 refl (and_right (b == 92) (c == 95) h));
    }

strokes_named : IsNamed Strokes
strokes_named =
    record {
      one = λ b h. either (b == 39) (b == 63 || b == 33) h (byte_named b 39 refl) (λ h. either (b == 63) (b == 33) h (byte_named b 63 refl) (byte_named b 33 refl));
      two = λ b c h. (byte_named b 95 refl (and_left (b == 95) (is_ascii_digit c) h), digit_named c (and_right (b == 95) (is_ascii_digit c) h));
    }

pub both_true : (a b : Bool) → a ≡ true → b ≡ true → (a && b) ≡ true
both_true true b h g = g
both_true false b h g = h

run_named : (run : Run) → IsNamed run → (u : List ℕ) → is_run run u ≡ true → list_all is_in_name u ≡ true
run_named run n [] h = refl
run_named run n (b ∷ []) h = both_true (is_in_name b) true (n.one b h) refl
run_named run n (b ∷ c ∷ bs) h = by (is_one run b) refl (run_named run n (c ∷ bs)) (run_named run n bs)
  where
    by : (t : Bool) → is_one run b ≡ t → (is_run run (c ∷ bs) ≡ true → list_all is_in_name (c ∷ bs) ≡ true)
        → (is_run run bs ≡ true → list_all is_in_name bs ≡ true) → list_all is_in_name (b ∷ c ∷ bs) ≡ true
    by true e one two =
        let more : is_run run (c ∷ bs) ≡ true = rw e at h in
        both_true (is_in_name b) (list_all is_in_name (c ∷ bs)) (n.one b e) (one more)
    by false e one two =
        let more : (is_two run b c && is_run run bs) ≡ true = rw e at h in
        let pair = n.two b c (and_left (is_two run b c) (is_run run bs) more) in
        both_true (is_in_name b) (list_all is_in_name (c ∷ bs)) pair.0
        (both_true (is_in_name c) (list_all is_in_name bs) pair.1 (two (and_right (is_two run b c) (is_run run bs) more)))

base_bytes : (base : List ℕ) → is_base base ≡ true → IsName base
base_bytes [] h = absurd (cc)
base_bytes (b ∷ bs) h = (
  omega arith,
  both_true (is_in_name b) (list_all is_in_name bs) (letter_named b (and_left (is_letter b) (is_run Base bs) h)) (run_named Base base_named bs (and_right (is_letter b) (is_run Base bs) h)),
)

-- a base and strokes are a name
pub spelled_name : (base strokes : List ℕ) → is_base base ≡ true → is_run Strokes strokes ≡ true → IsName (base ++ strokes)
spelled_name base strokes h g =
    let b = base_bytes base h in (
      omega (arith, length-append base strokes, b.0),
      list_all-append is_in_name base strokes ∙ both_true (list_all is_in_name base) (list_all is_in_name strokes) b.1 (run_named Strokes strokes_named strokes g),
    )
