-- Whether a text begins with another, byte by byte.
use Rattle.zf_scan.proofs.Prelude.{◌++◌, ◌+◌, ◌<◌, ◌∙◌, ◌∷◌, ◌≡◌, [], ap, ap₂, arith, Bool, false, get_or, length, List, refl, sym, take, true, ℕ, get_or-take, take_all, take_more, bytes_eq-Decides, starts_with, nat_eq, bytes_eq}
use Rattle.std.specs.Bool.{one_answer}

pub one_more : (s p : List ℕ) (i : ℕ) → i < length s → i < length p → take i s ≡ take i p → get_or s i 0 ≡ get_or p i 0 → take (i + 1) s ≡ take (i + 1) p
one_more s p i h k e same = take_more s i 0 h ∙ ap₂ (λ t x. t ++ x ∷ []) e same ∙ sym (take_more p i 0 k)

pub all_same : (s p : List ℕ) (i : ℕ) → i ≡ length p → take i s ≡ take i p → true ≡ starts_with nat_eq s p
all_same s p i n e =
    let front : take (length p) s ≡ p = ap (λ k. take k s) (sym n) ∙ e ∙ ap (λ k. take k p) n ∙ take_all (length p) p (omega arith) in
    sym ((bytes_eq-Decides p (take (length p) s)).1 (sym front))

pub one_differs : (s p : List ℕ) (i : ℕ) → i < length p → (get_or s i 0 ≡ get_or p i 0 → ⊥) → false ≡ starts_with nat_eq s p
one_differs s p i h differs = by (starts_with nat_eq s p) refl
  where
    by : (t : Bool) → starts_with nat_eq s p ≡ t → false ≡ t
    by true e = absurd (differs (sym (get_or-take (length p) s i 0 h) ∙ ap (λ t. get_or t i 0) (sym ((bytes_eq-Decides p (take (length p) s)).0 e))))
    by false e = refl

-- of a text as long
pub whole : (a b : List ℕ) → length a ≡ length b → starts_with nat_eq a b ≡ bytes_eq a b
whole a b n =
    let all : take (length b) a ≡ a = take_all (length b) a (omega (arith, n)) in
    let same = bytes_eq-Decides a b in
    one_answer (starts_with nat_eq a b) (bytes_eq a b) (let d = bytes_eq-Decides b (take (length b) a) in ((λ t. sym all ∙ sym (d.0 t)), λ e. d.1 (sym (all ∙ e)))) same
