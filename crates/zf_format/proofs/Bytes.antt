-- The bytes of a string, one after another.
use Rattle.std.proofs.Common.{◌++◌, ◌∙◌, ◌∷◌, ◌≡◌, ◌≤◌, [], ap, arith, Bool, drop, Err, false, length, List, Ok, refl, Result, suc, sym, true, zero, ℕ}
use Rattle.zf_format.proofs.Prelude.{flat_map, is_ok, IsUtf8, MatchResult, is_utf8}
use Rattle.std.proofs.lemmas.Str.{is_utf8-from_IsUtf8, IsUtf8-from_is_utf8}

-- ---- whether a text is UTF-8

pub told_utf8 : {T E : Type 0} (bytes : List ℕ) (P : T → Type 0) (Q : E → Type 0) (r : Result T E) → MatchResult r (λ s. P s × IsUtf8 bytes) (λ e. (IsUtf8 bytes → ⊥) × Q e) → is_ok r ≡ is_utf8 bytes
told_utf8 bytes P Q (Ok s) h = sym (is_utf8-from_IsUtf8 bytes h.1)
told_utf8 bytes P Q (Err e) h = by (is_utf8 bytes) refl
  where
    by : (b : Bool) → is_utf8 bytes ≡ b → false ≡ b
    by true is = absurd (h.0 (IsUtf8-from_is_utf8 bytes is))
    by false is = refl

-- ---- one byte after another

pub drop-end : {A : Type 0} (xs : List A) (i : ℕ) → length xs ≤ i → drop i xs ≡ []
drop-end [] zero l = refl
drop-end [] (suc i) l = refl
drop-end (x ∷ xs) zero l = absurd (omega (arith, l))
drop-end (x ∷ xs) (suc i) l = drop-end xs i (omega (arith, l))

pub none_more : (f : ℕ → List ℕ) (xs : List ℕ) (i : ℕ) (text tail whole : List ℕ) → length xs ≤ i → text ++ (flat_map f (drop i xs) ++ tail) ≡ whole → text ++ tail ≡ whole
none_more f xs i text tail whole l ahead = ap (λ ys. text ++ (flat_map f ys ++ tail)) (sym (drop-end xs i l)) ∙ ahead
