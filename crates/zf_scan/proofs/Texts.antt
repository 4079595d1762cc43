-- Texts: fronts, what stands after them, and branches.
use Rattle.zf_scan.proofs.Prelude.{◌++◌, ◌∙◌, ◌∷◌, ◌≡◌, ◌≤◌, [], ap, arith, Bool, drop, false, length, length-append, List, refl, sym, take, true, ℕ, Decides-eqb, nat_tests, starts_is, bytes_decides, if◌then◌else◌, ◌==◌, bytes_eq, begins, take-append_seam}

-- what holds in both branches
pub pick : {X : Type 0} (P : X → Type 0) (t : Bool) (x y : X) → (t ≡ true → P x) → (t ≡ false → P y) → P (if t then x else y)
pick P true x y on off = on refl
pick P false x y on off = off refl

pub eq_is : (a b : ℕ) → (a == b) ≡ true → a ≡ b
eq_is a b e = grind (arith, nat_tests)

pub both : {C : Type 0} (t : Bool) → t ≡ true → t ≡ false → C
both t e f = absurd (cc)

pub fronts : (a b x y : List ℕ) → length a ≡ length b → a ++ x ≡ b ++ y → (a ≡ b) × (x ≡ y)
fronts [] [] x y n e = (refl, e)
fronts [] (c ∷ b) x y n e = absurd (omega arith)
fronts (c ∷ a) [] x y n e = absurd (omega arith)
fronts (c ∷ a) (d ∷ b) x y n e =
    let head : c ≡ d = cc in
    let tail : a ++ x ≡ b ++ y = cc in
    let r = fronts a b x y (omega arith) tail in
    (ap (λ c. c ∷ a) head ∙ ap (λ a. d ∷ a) r.0, r.1)

pub taken : (s r rest : List ℕ) (n : ℕ) → s ≡ r ++ rest → length r ≡ n → take n s ≡ r
taken s r rest n e f = ap (λ n. take n s) (sym f) ∙ ap (take (length r)) e ∙ take-append_seam r rest

pub front_le : (s r rest : List ℕ) → s ≡ r ++ rest → length r ≤ length s
front_le s r rest e = omega (arith, ap length e, length-append r rest)

pub head_is : (a b : ℕ) (xs ys : List ℕ) → a ∷ xs ≡ b ∷ ys → a ≡ b
head_is a b xs ys e = cc

pub tail_is : (a b : ℕ) (xs ys : List ℕ) → a ∷ xs ≡ b ∷ ys → xs ≡ ys
tail_is a b xs ys e = cc

-- a text that begins with another
pub begins_is : (s front : List ℕ) → begins s front ≡ true → s ≡ front ++ drop (length front) s
begins_is s front e = (starts_is Decides-eqb s front (begins s front) refl).0 e

pub is_begun : (s front rest : List ℕ) → s ≡ front ++ rest → begins s front ≡ true
is_begun s front rest e = (starts_is Decides-eqb s front (begins s front) refl).1 rest e

pub bytes_same : (a b : List ℕ) → bytes_eq a b ≡ true → a ≡ b
bytes_same a b e = (bytes_decides a b).0 e
