-- Which letters begin a word of one spelling.
use Rattle.zf_scan.proofs.Prelude.{◌∷◌, ◌≡◌, ◌≤◌, [], arith, Bool, false, length, List, None, refl, slice_index_or, true, ℕ, list_all, ◌==◌, ◌||◌, not, is_letter, look_up, symbols, rules}
use Rattle.zf_scan.proofs.Table.{missed}

abbrev may_begin : List ℕ → Bool
may_begin [] = true
may_begin (b ∷ u) = not (is_letter b) || (b == 116 || b == 102)

all_may : list_all (λ row. may_begin row.0) symbols ≡ true
unfolding symbols
all_may = refl

-- of the words of one spelling each begins with `t` or `f`
no_word : (b : ℕ) (u : List ℕ) → is_letter b ≡ true → (b == 116) ≡ false → (b == 102) ≡ false → look_up (b ∷ u) symbols ≡ None
no_word b u l t f = missed may_begin symbols (b ∷ u) all_may (rw (l, t, f))

differ : (b h : ℕ) → (b ≡ h → ⊥) → (b == h) ≡ false
differ b h d = search rules

pub no_fixed_word : (p : List ℕ) → 1 ≤ length p → is_letter (slice_index_or p 0 0) ≡ true → (slice_index_or p 0 0 ≡ 116 → ⊥) → (slice_index_or p 0 0 ≡ 102 → ⊥) → look_up p symbols ≡ None
no_fixed_word [] some l t f = absurd (omega arith)
no_fixed_word (b ∷ u) some l t f = no_word b u l (differ b 116 t) (differ b 102 f)
