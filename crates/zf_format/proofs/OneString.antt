-- A text begins with one string alone.
use Rattle.zf_format.proofs.Prelude.{◌++◌, ◌∙◌, ◌∷◌, ◌≡◌, [], ap, arith, Bool, false, List, refl, sym, true, ℕ, ◌/◌, ◌%◌, append_assoc, digit_char, flat_map, is_utf8, hidden_text, is_hidden, is_marked, string_byte}
unfoldable use Rattle.zf_format.specs.{string_text}

-- ---- a byte of a string

data IsByte (b : ℕ) (t : List ℕ) : Type 0 where
  marked : is_marked b ≡ true → t ≡ 92 ∷ b ∷ [] → IsByte b t
  hidden : is_marked b ≡ false → t ≡ hidden_text b → IsByte b t
  plain : is_marked b ≡ false → t ≡ b ∷ [] → IsByte b t

seen : (u : Bool) (b : ℕ) → IsByte b (string_byte u b)
seen u b = by (is_marked b) (is_hidden u b) refl refl
  where
    by : (m h : Bool) → is_marked b ≡ m → is_hidden u b ≡ h → IsByte b (string_byte u b)
    by true h is e = marked is (rw is refl)
    by false true is e = hidden is (rw (is, e) refl)
    by false false is e = plain is (rw (is, e) refl)

same_digit : (m n : ℕ) → digit_char m ≡ digit_char n → m ≡ n
same_digit m n e = grind (arith, e)

one_number : (a b : ℕ) → digit_char (a / 16) ≡ digit_char (b / 16) → digit_char (a % 16) ≡ digit_char (b % 16) → a ≡ b
one_number a b high low =
    let h = same_digit (a / 16) (b / 16) high in
    let l = same_digit (a % 16) (b % 16) low in
    omega arith

other : {A : Type 0} (a b : ℕ) → a ≡ b → is_marked a ≡ true → is_marked b ≡ false → A
other a b e is not = absurd (let same = ap is_marked e in (cc))

one_byte : (a b : ℕ) (t u p q : List ℕ) → IsByte a t → IsByte b u → t ++ p ≡ u ++ q → (a ≡ b) × (p ≡ q)
one_byte a b t u p q (marked m x) (marked n y) e =
    let same : 92 ∷ a ∷ p ≡ 92 ∷ b ∷ q = sym (ap (λ l. l ++ p) x) ∙ e ∙ ap (λ l. l ++ q) y in
    ((cc), (cc))
one_byte a b t u p q (marked m x) (hidden n y) e =
    let same : 92 ∷ a ∷ p ≡ hidden_text b ++ q = sym (ap (λ l. l ++ p) x) ∙ e ∙ ap (λ l. l ++ q) y in
    other a 117 (cc) m refl
one_byte a b t u p q (marked m x) (plain n y) e =
    let same : 92 ∷ a ∷ p ≡ b ∷ q = sym (ap (λ l. l ++ p) x) ∙ e ∙ ap (λ l. l ++ q) y in
    other 92 b (cc) refl n
one_byte a b t u p q (hidden m x) (marked n y) e =
    let same : hidden_text a ++ p ≡ 92 ∷ b ∷ q = sym (ap (λ l. l ++ p) x) ∙ e ∙ ap (λ l. l ++ q) y in
    other b 117 (cc) n refl
one_byte a b t u p q (hidden m x) (hidden n y) e =
    let same : hidden_text a ++ p ≡ hidden_text b ++ q = sym (ap (λ l. l ++ p) x) ∙ e ∙ ap (λ l. l ++ q) y in
    (one_number a b (cc) (cc), (cc))
one_byte a b t u p q (hidden m x) (plain n y) e =
    let same : hidden_text a ++ p ≡ b ∷ q = sym (ap (λ l. l ++ p) x) ∙ e ∙ ap (λ l. l ++ q) y in
    other 92 b (cc) refl n
one_byte a b t u p q (plain m x) (marked n y) e =
    let same : a ∷ p ≡ 92 ∷ b ∷ q = sym (ap (λ l. l ++ p) x) ∙ e ∙ ap (λ l. l ++ q) y in
    other 92 a (cc) refl m
one_byte a b t u p q (plain m x) (hidden n y) e =
    let same : a ∷ p ≡ hidden_text b ++ q = sym (ap (λ l. l ++ p) x) ∙ e ∙ ap (λ l. l ++ q) y in
    other 92 a (cc) refl m
one_byte a b t u p q (plain m x) (plain n y) e =
    let same : a ∷ p ≡ b ∷ q = sym (ap (λ l. l ++ p) x) ∙ e ∙ ap (λ l. l ++ q) y in
    ((cc), (cc))

apart : ◌≡◌ {A = ℕ} 92 34 → ⊥
apart e = omega (arith, e)

no_end : (b : ℕ) (t p r : List ℕ) → IsByte b t → t ++ p ≡ 34 ∷ r → ⊥
no_end b t p r (marked m x) e =
    let same : 92 ∷ b ∷ p ≡ 34 ∷ r = sym (ap (λ l. l ++ p) x) ∙ e in
    apart (cc)
no_end b t p r (hidden m x) e =
    let same : hidden_text b ++ p ≡ 34 ∷ r = sym (ap (λ l. l ++ p) x) ∙ e in
    apart (cc)
no_end b t p r (plain m x) e =
    let same : b ∷ p ≡ 34 ∷ r = sym (ap (λ l. l ++ p) x) ∙ e in
    other 34 b (cc) refl m

-- ---- the bytes up to the quotation mark that closes

one_body : (u v : Bool) (a b r s : List ℕ) → flat_map (string_byte u) a ++ 34 ∷ r ≡ flat_map (string_byte v) b ++ 34 ∷ s → (a ≡ b) × (r ≡ s)
one_body u v [] [] r s e = (refl, (cc))
one_body u v [] (y ∷ b) r s e = absurd (no_end y (string_byte v y) _ r (seen v y) (sym (append_assoc (string_byte v y) _ _) ∙ sym e))
one_body u v (x ∷ a) [] r s e = absurd (no_end x (string_byte u x) _ s (seen u x) (sym (append_assoc (string_byte u x) _ _) ∙ e))
one_body u v (x ∷ a) (y ∷ b) r s e =
    let first = one_byte x y (string_byte u x) (string_byte v y) _ _ (seen u x) (seen v y) (sym (append_assoc (string_byte u x) _ _) ∙ e ∙ append_assoc (string_byte v y) _ _) in
    let others = one_body u v a b r s first.1 in
    ((cc), others.1)

body : List ℕ → List ℕ
body a = flat_map (string_byte (is_utf8 a)) a

pub one_string : (a b r s : List ℕ) → string_text a ++ r ≡ string_text b ++ s → (a ≡ b) × (r ≡ s)
unfolding string_text body
one_string a b r s e =
    let texts : 34 ∷ ((body a ++ 34 ∷ []) ++ r) ≡ 34 ∷ ((body b ++ 34 ∷ []) ++ s) = e in
    let inner : (body a ++ 34 ∷ []) ++ r ≡ (body b ++ 34 ∷ []) ++ s = (cc) in
    one_body (is_utf8 a) (is_utf8 b) a b r s (sym (append_assoc (body a) (34 ∷ []) r) ∙ inner ∙ append_assoc (body b) (34 ∷ []) s)
