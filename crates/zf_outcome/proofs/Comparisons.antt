-- Comparisons of numbers.
use Rattle.zf_outcome.proofs.Prelude.{if◌then◌else◌, ◌↔◌, ◌∙◌, ◌≡◌, ap, Bool, false, IsTrue, None, of_z, refl, Some, subst, sym, to_z, true, ℤ, FitsSigned, same, is_Int, number_of-Int, number_of, Truth, Int, Value, Tells, Compares, IsFrom, IsIn}
use Rattle.std.specs.Int.{w64}
use Rattle.zf_term.specs.declared.extent.Infinite.{Infinite}
use Rattle.zf_term.specs.declared.extent.Infinite.TheVariants.{Num, Nat, Nat1}
use Rattle.zf_value.specs.declared.value.Truth.TheVariants.{True, False}

-- numbers that were written as words are themselves
pub written-both : (Q : ℤ → ℤ → Type 0) (m n : ℤ) → FitsSigned w64 m → FitsSigned w64 n → Q (to_z w64 (of_z w64 m)) (to_z w64 (of_z w64 n)) → Q m n
written-both Q m n f g h = subst (λ x. Q x n) (same m f) (subst (λ y. Q (to_z w64 (of_z w64 m)) y) (same n g) h)

pub told-by : (P : Type 0) (b : Bool) (t : Truth) → t ≡ (if b then True else False) → (IsTrue b ↔ P) → Tells P t
told-by P true t e h = subst (Tells P) (sym e) (h.0 refl)
told-by P false t e h = subst (Tells P) (sym e) (λ p. let no = h.1 p in (cc))

one-number : (v : Value) (m n : ℤ) → Some m ≡ number_of v → v ≡ Int n → m ≡ n
one-number v m n e f = let s : Some m ≡ Some n = e ∙ ap number_of f ∙ number_of-Int n in (cc)

not-none : (v : Value) (n : ℤ) → None ≡ number_of v → v ≡ Int n → ⊥
not-none v n e f = let s : None ≡ Some n = e ∙ ap number_of f ∙ number_of-Int n in (cc)

never-true : IsTrue false → ⊥
never-true e = (cc)

pub compared-both : (P : ℤ → ℤ → Type 0) (v w : Value) (m n : ℤ) (b : Bool) → Some m ≡ number_of v → Some n ≡ number_of w → IsTrue b ↔ P m n → IsTrue b ↔ Compares P v w
compared-both P v w m n b e f h = (
  λ g. (m, n, is_Int v m e, is_Int w n f, h.0 g),
  λ p. h.1 (subst (λ x. P x n) (sym (one-number v m p.0 e p.2)) (subst (λ y. P p.0 y) (sym (one-number w n p.1 f p.3)) p.4)),
)

pub compared-no_left : (P : ℤ → ℤ → Type 0) (v w : Value) → None ≡ number_of v → IsTrue false ↔ Compares P v w
compared-no_left P v w e = (λ g. absurd (never-true g), λ p. absurd (not-none v p.0 e p.2))

pub compared-no_right : (P : ℤ → ℤ → Type 0) (v w : Value) → None ≡ number_of w → IsTrue false ↔ Compares P v w
compared-no_right P v w e = (λ g. absurd (never-true g), λ p. absurd (not-none w p.1 e p.3))

-- a number in an infinite set
pub in-infinite : (s : Infinite) (v : Value) (n : ℤ) (b : Bool) → Some n ≡ number_of v → IsTrue b ↔ IsFrom s n → IsTrue b ↔ IsIn s v
in-infinite Num v n b e h = (λ g. (n, is_Int v n e), λ p. h.1 tt)
in-infinite Nat v n b e h = (λ g. (n, is_Int v n e, h.0 g), λ p. h.1 (subst (IsFrom Nat) (sym (one-number v n p.0 e p.1)) p.2))
in-infinite Nat1 v n b e h = (λ g. (n, is_Int v n e, h.0 g), λ p. h.1 (subst (IsFrom Nat1) (sym (one-number v n p.0 e p.1)) p.2))

pub none-infinite : (s : Infinite) (v : Value) → None ≡ number_of v → IsTrue false ↔ IsIn s v
none-infinite Num v e = (λ g. absurd (never-true g), λ p. absurd (not-none v p.0 e p.1))
none-infinite Nat v e = (λ g. absurd (never-true g), λ p. absurd (not-none v p.0 e p.1))
none-infinite Nat1 v e = (λ g. absurd (never-true g), λ p. absurd (not-none v p.0 e p.1))
