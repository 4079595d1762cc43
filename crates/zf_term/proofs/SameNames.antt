-- When two names are the same.
use Rattle.zf_term.proofs.Prelude.{◌≡◌, ap, Bool, false, length, List, refl, sym, true, true≢false, ℕ, bytes_eq-Decides, bytes_eq}

pub is_same : (x y : List ℕ) → bytes_eq x y ≡ true → x ≡ y
is_same x y e = (bytes_eq-Decides x y).0 e

pub is_itself : (x : List ℕ) → bytes_eq x x ≡ true
is_itself x = (bytes_eq-Decides x x).1 refl

-- two tests that come out alike
pub tests_alike : (s t : Bool) → (s ≡ true → t ≡ true) → (t ≡ true → s ≡ true) → s ≡ t
tests_alike true t there back = sym (there refl)
tests_alike false true there back = back refl
tests_alike false false there back = refl

pub swapped : (x y : List ℕ) → bytes_eq x y ≡ bytes_eq y x
swapped x y =
    tests_alike (bytes_eq x y) (bytes_eq y x) (λ e. (bytes_eq-Decides y x).1 (sym (is_same x y e))) (λ e. (bytes_eq-Decides x y).1 (sym (is_same y x e)))

pub lengths_differ : (x y : List ℕ) → (length x ≡ length y → ⊥) → bytes_eq x y ≡ false
lengths_differ x y apart = tests_alike (bytes_eq x y) false (λ e. absurd (apart (ap length (is_same x y e)))) (λ e. absurd (true≢false (sym e)))
