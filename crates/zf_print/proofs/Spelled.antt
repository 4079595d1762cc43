-- Spellings that are clear: words, and each of one element.
use Rattle.zf_print.proofs.Prelude.{◌++◌, ◌+◌, ◌<◌, ◌∷◌, ◌≡◌, [], ap, arith, codes, length, List, refl, suc, sym, zero, ℕ, decimal_injective, length-append, decimal, slice_get, AreApart, AreNames, IsClear, IsName, IsNoneOf, spelled, Spelling, Named, Numbered}
use Rattle.zf_print.proofs.WordRuns.{AreInWord, name_in_word, decimal_in_word, append_in_word}

abbrev pub IsWord : List ℕ → Type 0
IsWord w = AreInWord w × (0 < length w)

name_at : (names : List (List ℕ)) (i : ℕ) → AreNames names → i < length names → IsName (spelled (Named names) i)
name_at [] i h l = absurd (omega arith)
name_at (n ∷ names) zero h l = h.0
name_at (n ∷ names) (suc i) h l = name_at names i h.1 (omega arith)

longer : (v w : List ℕ) → 0 < length v → 0 < length (v ++ w)
longer v w l = let n = length-append v w in omega arith

pub spelled_word : (s : Spelling) (k i : ℕ) → IsClear s k → i < k → IsWord (spelled s i)
spelled_word (Numbered name) k i c l = (
  append_in_word (name ++ codes ".") (decimal (i + 1)) (append_in_word name (codes ".") (name_in_word name c.0.1) refl) (decimal_in_word (i + 1) (omega arith)),
  longer (name ++ codes ".") (decimal (i + 1)) (longer name (codes ".") c.0.0),
)
spelled_word (Named names) k i c l =
    let n = name_at names i c.0 (omega arith) in
    (name_in_word (spelled (Named names) i) n.1, n.0)

none_at : (names : List (List ℕ)) (name : List ℕ) (i : ℕ) → IsNoneOf names name → i < length names → spelled (Named names) i ≡ name → ⊥
none_at [] name i h l e = absurd (omega arith)
none_at (n ∷ names) name zero h l e = h.0 e
none_at (n ∷ names) name (suc i) h l e = none_at names name i h.1 (omega arith) e

pub one_place : (names : List (List ℕ)) (i j : ℕ) → AreApart names → i < length names → j < length names → spelled (Named names) i ≡ spelled (Named names) j → i ≡ j
one_place [] i j a l m e = absurd (omega arith)
one_place (n ∷ names) zero zero a l m e = refl
one_place (n ∷ names) zero (suc j) a l m e = absurd (none_at names n j a.0 (omega arith) (sym e))
one_place (n ∷ names) (suc i) zero a l m e = absurd (none_at names n i a.0 (omega arith) e)
one_place (n ∷ names) (suc i) (suc j) a l m e = ap suc (one_place names i j a.1 (omega arith) (omega arith) e)

pub cancel : (xs ys zs : List ℕ) → xs ++ ys ≡ xs ++ zs → ys ≡ zs
cancel [] ys zs e = e
cancel (x ∷ xs) ys zs e = cancel xs ys zs (cc)

pub spelled_one : (s : Spelling) (k i j : ℕ) → IsClear s k → i < k → j < k → spelled s i ≡ spelled s j → i ≡ j
spelled_one (Numbered name) k i j c l m e =
    let same = decimal_injective (i + 1) (j + 1) (omega arith) (omega arith) (cancel (name ++ codes ".") (decimal (i + 1)) (decimal (j + 1)) e) in
    omega arith
spelled_one (Named names) k i j c l m e = one_place names i j c.1 (omega arith) (omega arith) e
