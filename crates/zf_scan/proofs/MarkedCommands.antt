-- The commands of a backslash and one mark: what stands after the mark doesn't matter. And what closes a box begins `\e`.
use Rattle.zf_scan.proofs.Prelude.{◌+◌, ◌∙◌, ◌∷◌, ◌≡◌, ◌≤◌, [], ap, ap₂, arith, drop, false, length, length-take-le, List, None, refl, slice_index_or, Some, suc, sym, take, ℕ, is_letter, look_up, symbols, begins, command_len, found, long_len, or_else, run_len, step_len, tail_len, command_found, short_command, Piece, Symbol, Letters, CloseBrace, OpenBrace, Separator, min}
use Rattle.zf_scan.specs.declared.token.Separator.TheVariants as separators
use Rattle.zf_scan.proofs.Closing.{tail_within}
use Rattle.zf_scan.proofs.Fronts.{one_differs}
use Rattle.zf_scan.proofs.Runs.{run_stop}

-- a mark, of which this is the command, and none is longer
pub record IsMark (b : ℕ) (piece : Piece) : Type 0 where
  pub sign : is_letter b ≡ false
  pub other : b ≡ 101 → ⊥
  pub alone : look_up (92 ∷ b ∷ []) symbols ≡ Some piece
  pub longer : (c : ℕ) (t : List ℕ) → look_up (92 ∷ b ∷ c ∷ t) symbols ≡ None

no_step : (b : ℕ) (s : List ℕ) → is_letter b ≡ false → step_len Letters (b ∷ s) ≡ 0
no_step b [] e = rw e
no_step b (c ∷ s) e = rw e

two_more : (n : ℕ) → 2 + n ≡ suc (suc n)
two_more n = omega arith

least : (n : ℕ) → 2 ≤ n → min n 2 ≡ 2
least n h = omega arith

short_len : (b : ℕ) (s : List ℕ) → is_letter b ≡ false → command_len (92 ∷ b ∷ s) ≡ 2
short_len b s e = let none : run_len Letters (b ∷ s) ≡ 0 = run_stop Letters (b ∷ s) (no_step b s e) in rw none (least (length (92 ∷ b ∷ s)) (omega arith))

short_found : (b : ℕ) (s : List ℕ) (piece : Piece) → IsMark b piece → short_command (92 ∷ b ∷ s) 2 ≡ found piece 2
unfolding short_command
short_found b s piece m = rw m.alone refl

long_found : (b : ℕ) (s : List ℕ) (piece : Piece) → IsMark b piece → (n : ℕ) (t : List ℕ) → t ≡ take n s → n ≤ length s
    → or_else (look_up (92 ∷ b ∷ t) symbols) (2 + n) (short_command (92 ∷ b ∷ s) 2) ≡ found piece 2
long_found b s piece m n [] e h =
    let none : 2 + n ≡ 2 = omega (arith, length-take-le n s h, ap length e) in
    ap (λ o. or_else o (2 + n) (short_command (92 ∷ b ∷ s) 2)) m.alone ∙ ap (found piece) none
long_found b s piece m n (c ∷ t) e h = ap (λ o. or_else o (2 + n) (short_command (92 ∷ b ∷ s) 2)) (m.longer c t) ∙ short_found b s piece m

unclosed : (end s : List ℕ) (b : ℕ) → (b ≡ 101 → ⊥) → 2 ≤ length end → slice_index_or end 1 0 ≡ 101 → begins (92 ∷ b ∷ s) end ≡ false
unclosed end s b other long second = sym (one_differs (92 ∷ b ∷ s) end 1 (omega arith) (λ e. other (e ∙ second)))

at_mark : (end s : List ℕ) (b : ℕ) (piece : Piece) → IsMark b piece → 2 ≤ length end → slice_index_or end 1 0 ≡ 101 → found piece 2 ≡ command_found end (92 ∷ b ∷ s)
unfolding command_found
at_mark end s b piece m long second =
    let z = 92 ∷ b ∷ s in
    let short : command_len z ≡ 2 = short_len b s m.sign in
    let tail = tail_len s in
    let all : long_len z ≡ 2 + tail = ap (λ n. n + tail_len (drop n z)) short in
    let text : take (2 + tail) z ≡ 92 ∷ b ∷ take tail s = ap (λ n. take n z) (two_more tail) in
    sym (rw (unclosed end s b m.other long second) (
    ap (λ n. or_else (look_up (take n z) symbols) n (short_command z (command_len z))) all
    ∙ ap (λ t. or_else (look_up t symbols) (2 + tail) (short_command z (command_len z))) text
    ∙ ap (λ n. or_else (look_up (92 ∷ b ∷ take tail s) symbols) (2 + tail) (short_command z n)) short
    ∙ long_found b s piece m tail (take tail s) refl (tail_within s)))

pub mark_found : (end s : List ℕ) (b : ℕ) (piece : Piece) → IsMark b piece → 2 ≤ length end → slice_index_or end 1 0 ≡ 101 → 2 ≤ length s
    → slice_index_or s 0 0 ≡ 92 → slice_index_or s 1 0 ≡ b → found piece 2 ≡ command_found end s
mark_found end [] b piece m long second some e f = absurd (omega arith)
mark_found end (x ∷ []) b piece m long second some e f = absurd (omega arith)
mark_found end (x ∷ y ∷ s) b piece m long second some e f = at_mark end s b piece m long second ∙ ap₂ (λ x y. command_found end (x ∷ y ∷ s)) (sym e) (sym f)

-- ---- the marks

pub backslash : IsMark 92 (Symbol (Separator separators.NewLine))
unfolding symbols
backslash = record { sign = refl; other = λ e. omega (arith, e); alone = refl; longer = λ c t. refl }

pub open_brace : IsMark 123 (Symbol OpenBrace)
unfolding symbols
open_brace = record { sign = refl; other = λ e. omega (arith, e); alone = refl; longer = λ c t. refl }

pub close_brace : IsMark 125 (Symbol CloseBrace)
unfolding symbols
close_brace = record { sign = refl; other = λ e. omega (arith, e); alone = refl; longer = λ c t. refl }
