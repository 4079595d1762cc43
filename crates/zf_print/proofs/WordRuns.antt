-- Words, and where they end.
use Rattle.zf_print.proofs.Prelude.{◌&&◌, ◌++◌, ◌<◌, ◌^◌, ◌||◌, ◌∙◌, ◌∷◌, ◌≡◌, [], ap, arith, Bool, false, List, negsuc, pos, refl, suc, sym, true, ℕ, ℤ, decimal_is_IsNumeral, signed_decimal, IsInRange, w64, list_all, decimal, FitsSigned, AllDigits, Ends, is_in_name, is_in_word}
use Rattle.std.specs.Char.{digit_value, is_ascii_digit}
use Rattle.std.proofs.lemmas.Str.Parse.{digit_from_value}

abbrev pub AreInWord : List ℕ → Type 0
AreInWord w = list_all is_in_word w ≡ true

-- ---- which bytes

left_true : (a b : Bool) → a ≡ true → (a || b) ≡ true
left_true true b e = refl
left_true false b e = (cc)

right_true : (a b : Bool) → b ≡ true → (a || b) ≡ true
right_true true b e = refl
right_true false b e = e

both_true : (a b : Bool) → a ≡ true → b ≡ true → (a && b) ≡ true
both_true true b e f = f
both_true false b e f = (cc)

both_of : (a b : Bool) → (a && b) ≡ true → (a ≡ true) × (b ≡ true)
both_of true b e = (refl, e)
both_of false b e = (cc)

digit_in_range : (b : ℕ) → IsInRange 48 57 b → is_ascii_digit b ≡ true
digit_in_range b h = grind arith

digit_in_name : (b : ℕ) → is_ascii_digit b ≡ true → is_in_name b ≡ true
digit_in_name b h = left_true _ _ (left_true _ _ (left_true _ _ (left_true _ _ (left_true _ _ (right_true _ _ h)))))

name_byte_in_word : (b : ℕ) → is_in_name b ≡ true → is_in_word b ≡ true
name_byte_in_word b h = left_true _ _ (left_true _ _ h)

pub in_word-digit : (b : ℕ) → digit_value b < 10 → is_in_word b ≡ true
in_word-digit b h = name_byte_in_word b (digit_in_name b (digit_in_range b (digit_from_value b h)))

pub digits_in_word : (ds : List ℕ) → AllDigits 10 ds → AreInWord ds
digits_in_word [] h = refl
digits_in_word (d ∷ ds) h = both_true _ _ (in_word-digit d h.0) (digits_in_word ds h.1)

pub name_in_word : (ds : List ℕ) → list_all is_in_name ds ≡ true → AreInWord ds
name_in_word [] h = refl
name_in_word (d ∷ ds) h =
    let each = both_of _ _ h in
    both_true _ _ (name_byte_in_word d each.0) (name_in_word ds each.1)

pub decimal_in_word : (n : ℕ) → n < 2 ^ 64 → AreInWord (decimal n)
decimal_in_word n l = digits_in_word (decimal n) (decimal_is_IsNumeral n l).0.1

pub signed_in_word : (n : ℤ) → FitsSigned w64 n → AreInWord (signed_decimal n)
signed_in_word (pos n) l = decimal_in_word n (omega (arith, l))
signed_in_word (negsuc n) l = both_true true _ refl (decimal_in_word (suc n) (omega (arith, l)))

pub append_in_word : (v w : List ℕ) → AreInWord v → AreInWord w → AreInWord (v ++ w)
append_in_word [] w a b = b
append_in_word (c ∷ v) w a b =
    let each = both_of _ _ a in
    both_true _ _ each.0 (append_in_word v w each.1 b)

-- ---- one word at the front

pub first_and_rest : (y : ℕ) (w : List ℕ) → AreInWord (y ∷ w) → (is_in_word y ≡ true) × AreInWord w
first_and_rest y w h = both_of (is_in_word y) (list_all is_in_word w) h

pub never : (y : ℕ) (w : List ℕ) → AreInWord (y ∷ w) → is_in_word y ≡ false → ⊥
never y w h e = let each = first_and_rest y w h in (cc)

pub one_run : (w x r s : List ℕ) → AreInWord w → AreInWord x → Ends r → Ends s → w ++ r ≡ x ++ s → (w ≡ x) × (r ≡ s)
one_run [] [] r s a b c d e = (refl, e)
one_run [] (y ∷ x) [] s a b c d e = absurd (cc)
one_run [] (y ∷ x) (z ∷ r) s a b c d e =
    let same : z ≡ y = (cc) in
    absurd (never y x b (ap is_in_word (sym same) ∙ c))
one_run (y ∷ w) [] r [] a b c d e = absurd (cc)
one_run (y ∷ w) [] r (z ∷ s) a b c d e =
    let same : y ≡ z = (cc) in
    absurd (never y w a (ap is_in_word same ∙ d))
one_run (y ∷ w) (z ∷ x) r s a b c d e =
    let first : y ≡ z = (cc) in
    let rest = one_run w x r s (first_and_rest y w a).1 (first_and_rest z x b).1 c d (cc) in
    let whole : y ∷ w ≡ z ∷ x = (cc) in
    (whole, rest.1)
