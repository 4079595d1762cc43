-- Words that are the texts of numbers.
use Rattle.zf_read.proofs.Prelude.{◌<◌, ◌^◌, ◌∙◌, ◌≡◌, ap, Bool, Err, false, List, of_z, Ok, Result, subst, sym, to_z, true, ℕ, ℤ, IsAscii-decimal, IsAscii-signed, parse-decimal, parse-signed_decimal, signed_decimal, w64, decimal, FitsSigned, IsUtf8, ParsesSigned, ParsesUnsigned, same, magnitude}
use Rattle.std.proofs.lemmas.Str.{IsUtf8-from_ascii}

pub signed_utf8 : (word : List ℕ) (n : ℤ) → FitsSigned w64 n → word ≡ signed_decimal n → IsUtf8 word
signed_utf8 word n fits e = subst IsUtf8 (sym e) (IsUtf8-from_ascii (signed_decimal n) (IsAscii-signed n (magnitude n fits)))

pub unsigned_utf8 : (word : List ℕ) (n : ℕ) → n < 2 ^ 64 → word ≡ decimal n → IsUtf8 word
unsigned_utf8 word n fits e = subst IsUtf8 (sym e) (IsUtf8-from_ascii (decimal n) (IsAscii-decimal n fits))

pub signed_parsed : {E : Type 0} (word : List ℕ) (n : ℤ) (r : Result ℤ E) → FitsSigned w64 n → word ≡ signed_decimal n → ParsesSigned w64 10 word r → r ≡ Ok n
signed_parsed word n r fits e p = parse-signed_decimal w64 n word r fits (magnitude n fits) e p

pub unsigned_parsed : {E : Type 0} (word : List ℕ) (n : ℕ) (r : Result ℕ E) → n < 2 ^ 64 → word ≡ decimal n → ParsesUnsigned 64 10 word r → r ≡ Ok n
unsigned_parsed word n r fits e p = parse-decimal 64 n word r fits fits e p

no_error : {A E : Type 0} (r : Result A E) (x : A) (e : E) → r ≡ Err e → r ≡ Ok x → ⊥
no_error r x e f g = (cc)

same_ok : {A E : Type 0} (r : Result A E) (x y : A) → r ≡ Ok x → r ≡ Ok y → x ≡ y
same_ok r x y f g = (cc)

pub signed_unparsed : {E : Type 0} (word : List ℕ) (r : Result ℤ E) (f : E) → r ≡ Err f → ParsesSigned w64 10 word r → (n : ℤ) → FitsSigned w64 n → word ≡ signed_decimal n → ⊥
signed_unparsed word r f is p n fits e = no_error r n f is (signed_parsed word n r fits e p)

pub unsigned_unparsed : {E : Type 0} (word : List ℕ) (r : Result ℕ E) (f : E) → r ≡ Err f → ParsesUnsigned 64 10 word r → (n : ℕ) → n < 2 ^ 64 → word ≡ decimal n → ⊥
unsigned_unparsed word r f is p n fits e = no_error r n f is (unsigned_parsed word n r fits e p)

pub signed_other : {E : Type 0} (word : List ℕ) (r : Result ℤ E) (m : ℤ) → r ≡ Ok m → ParsesSigned w64 10 word r → (signed_decimal m ≡ word → ⊥) → (n : ℤ)
    → FitsSigned w64 n → word ≡ signed_decimal n → ⊥
signed_other word r m is p differs n fits e = differs (ap signed_decimal (same_ok r m n is (signed_parsed word n r fits e p)) ∙ sym e)

pub unsigned_other : {E : Type 0} (word : List ℕ) (r : Result ℕ E) (m : ℕ) → r ≡ Ok m → ParsesUnsigned 64 10 word r → (decimal m ≡ word → ⊥) → (n : ℕ) → n < 2 ^ 64 → word ≡ decimal n → ⊥
unsigned_other word r m is p differs n fits e = differs (ap decimal (same_ok r m n is (unsigned_parsed word n r fits e p)) ∙ sym e)

pub never_both : (b : Bool) → b ≡ true → b ≡ false → ⊥
never_both b t f = (cc)

pub parsed_fits : {E : Type 0} (word : List ℕ) (r : Result ℤ E) (m : ℤ) → r ≡ Ok m → ParsesSigned w64 10 word r → FitsSigned w64 m
parsed_fits word r m is p =
    let at = subst (ParsesSigned w64 10 word) is p in
    subst (FitsSigned w64) (sym at.1) at.0.1

pub printed_same : {E : Type 0} (word : List ℕ) (r : Result ℤ E) (m : ℤ) → r ≡ Ok m → ParsesSigned w64 10 word r → signed_decimal (to_z w64 (of_z w64 m)) ≡ signed_decimal m
printed_same word r m is p = ap signed_decimal (same m (parsed_fits word r m is p))

pub parsed_again : {E : Type 0} (word : List ℕ) (r : Result ℤ E) (m : ℤ) → r ≡ Ok m → ParsesSigned w64 10 word r → FitsSigned w64 (to_z w64 (of_z w64 m))
parsed_again word r m is p =
    let fits = parsed_fits word r m is p in
    subst (FitsSigned w64) (sym (same m fits)) fits
