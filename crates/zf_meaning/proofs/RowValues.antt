-- The value of a row, and what is left of what is bound.
use Rattle.zf_meaning.proofs.Prelude.{◌++◌, ◌+◌, ◌-◌, ◌<◌, ◌∙◌, ◌∷◌, ◌≡◌, ◌≤◌, [], add-one, ap, arith, drop, get_or, length, List, refl, suc, sym, take, zero, ℕ, Bor, Tuple, Value, row_value, seen}

-- ---- the value of a row

seen-suc : (xs : List (Bor Value)) (i : ℕ) (x : Bor Value) → i < length xs → x ≡ get_or xs i x → take (suc i) (seen xs) ≡ take i (seen xs) ++ x.now ∷ []
seen-suc [] i x l e = absurd (omega arith)
seen-suc (y ∷ xs) zero x l e = ap (λ z. z.now ∷ []) (sym e)
seen-suc (y ∷ xs) (suc i) x l e = ap (λ ys. y.now ∷ ys) (seen-suc xs i x (omega arith) e)

pub copied-more : (xs : List (Bor Value)) (i : ℕ) (x : Bor Value) (v : Value) (old new : List Value) → i < length xs → x ≡ get_or xs i x → v ≡ x.now
    → old ≡ take i (seen xs) → new ≡ old ++ v ∷ [] → new ≡ take (i + 1) (seen xs)
copied-more xs i x v old new l e f o n = n ∙ ap (λ ys. ys ++ v ∷ []) o ∙ ap (λ y. take i (seen xs) ++ y ∷ []) f ∙ sym (seen-suc xs i x l e) ∙ ap (λ k. take k (seen xs)) (sym (add-one i))

take-past : (n : ℕ) (xs : List (Bor Value)) → length xs ≤ n → take n (seen xs) ≡ seen xs
take-past zero [] h = refl
take-past (suc n) [] h = refl
take-past zero (x ∷ xs) h = absurd (omega arith)
take-past (suc n) (x ∷ xs) h = ap (λ ys. x.now ∷ ys) (take-past n xs (omega arith))

row-tuple : (xs : List (Bor Value)) → (length xs ≡ 1 → ⊥) → row_value (seen xs) ≡ Tuple (seen xs)
row-tuple [] h = refl
row-tuple (x ∷ []) h = absurd (h refl)
row-tuple (x ∷ y ∷ xs) h = refl

pub copied-row : (xs : List (Bor Value)) (n : ℕ) (items copies : List Value) → (length xs ≡ 1 → ⊥) → length xs ≤ n → copies ≡ take n (seen xs) → items ≡ copies → Tuple items ≡ row_value (seen xs)
copied-row xs n items copies h l e i = ap Tuple (i ∙ e ∙ take-past n xs l) ∙ sym (row-tuple xs h)

-- ---- the rest of what is bound

whole : {A : Type 0} (xs : List A) (n : ℕ) → n ≡ length xs → take n xs ≡ xs
whole [] zero e = refl
whole [] (suc n) e = absurd (omega arith)
whole (x ∷ xs) zero e = absurd (omega arith)
whole (x ∷ xs) (suc n) e = ap (λ ys. x ∷ ys) (whole xs n (omega arith))

seen-from : (n : ℕ) (xs : List (Bor Value)) → seen (drop n xs) ≡ drop n (seen xs)
seen-from zero [] = refl
seen-from (suc n) [] = refl
seen-from zero (x ∷ xs) = refl
seen-from (suc n) (x ∷ xs) = seen-from n xs

left-length : (n : ℕ) (xs : List (Bor Value)) → length xs - n ≡ length (drop n xs)
left-length zero [] = refl
left-length (suc n) [] = omega arith
left-length zero (x ∷ xs) = omega arith
left-length (suc n) (x ∷ xs) = omega (arith, left-length n xs)

pub seen-rest : (n : ℕ) (xs : List (Bor Value)) → seen (take (length xs - n) (drop n xs)) ≡ drop n (seen xs)
seen-rest n xs = ap seen (whole (drop n xs) (length xs - n) (left-length n xs)) ∙ seen-from n xs
