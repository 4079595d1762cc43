-- What is said of a name by its lengths.
use Rattle.zf_scan.proofs.Prelude.{◌+◌, ◌∙◌, ◌∷◌, ◌≡◌, ◌≤◌, [], ap, arith, drop, List, None, refl, suc, sym, take, zero, ℕ, drop-take, look_up, symbols, match_of, base_len, Match, found, or_else, strokes_len, word_len, word_found, Symbol, BeginSchema, Name}
use Rattle.zf_scan.specs.declared.next.Next.TheVariants as next
use Rattle.zf_scan.specs.declared.pieces.Lexeme.TheVariants as lexeme

take-within : {A : Type 0} (n m : ℕ) (s : List A) → n ≤ m → take n (take m s) ≡ take n s
take-within zero m s h = refl
take-within (suc n) zero s h = absurd (omega arith)
take-within (suc n) (suc m) [] h = refl
take-within (suc n) (suc m) (x ∷ s) h = ap (λ t. x ∷ t) (take-within n m s (omega arith))

pub word_told : (s : List ℕ) → look_up (take (word_len s) s) symbols ≡ None → match_of s (record { lexeme = lexeme.Symbol next.Name; amount = base_len s; len = word_len s }) ≡ word_found s
unfolding word_found
word_told s none =
    let name : List ℕ → List ℕ → Match = λ (base strokes : List ℕ). found (Symbol (Name base strokes)) (word_len s) in
    ap (λ base. name base (drop (base_len s) (take (word_len s) s))) (take-within (base_len s) (word_len s) s (omega arith))
    ∙ ap (name (take (base_len s) s)) (drop-take (base_len s) (strokes_len s) s)
    ∙ sym (ap (λ o. or_else o (word_len s) (name (take (base_len s) s) (take (strokes_len s) (drop (base_len s) s)))) none)

pub schema_told : (s : List ℕ) (n : ℕ) → match_of s (record { lexeme = lexeme.Symbol next.BeginSchema; amount = n; len = 16 + n }) ≡ found (Symbol (BeginSchema (take n (drop 15 s)))) (16 + n)
schema_told s n =
    let len : 16 + n ≡ 15 + (1 + n) = omega arith in
    let text : drop 15 (take (16 + n) s) ≡ take (1 + n) (drop 15 s) = ap (λ m. drop 15 (take m s)) len ∙ drop-take 15 (1 + n) s in
    ap (λ name. found (Symbol (BeginSchema name)) (16 + n)) (ap (take n) text ∙ take-within n (1 + n) (drop 15 s) (omega arith))
