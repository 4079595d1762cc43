-- The terms of conjuncts, one after another.
use Rattle.zf_enum.proofs.Prelude.{◌++◌, ◌+◌, ◌<◌, ◌∙◌, ◌∷◌, ◌≡◌, ◌≤◌, [], add-one, ap, ap₂, arith, get_or, length, List, map, refl, suc, sym, take, zero, ℕ, conjunct_of, resolved_of, ResolvedTree, Conjunct, Resolved}

pushed : (ts : List Resolved) (t : Resolved) → map resolved_of (ts ++ t ∷ []) ≡ map resolved_of ts ++ resolved_of t ∷ []
pushed [] t = refl
pushed (u ∷ ts) t = ap (λ rs. resolved_of u ∷ rs) (pushed ts t)

front : {A : Type 0} → (g : A → ResolvedTree) (cs : List A) (i : ℕ) (c : A) → c ≡ get_or cs i c → i < length cs → map g (take (suc i) cs) ≡ map g (take i cs) ++ g c ∷ []
front g [] i c at l = absurd (omega arith)
front g (d ∷ ds) zero c at l = ap (λ z. g z ∷ []) (sym at)
front g (d ∷ ds) (suc i) c at l = ap (λ rs. g d ∷ rs) (front g ds i c at (omega arith))

pub one_term_more : (cs : List Resolved) (i : ℕ) (c : Resolved) → c ≡ get_or cs i c → i < length cs → map resolved_of (take (i + 1) cs) ≡ map resolved_of (take i cs) ++ resolved_of c ∷ []
one_term_more cs i c at l = rw add-one (front resolved_of cs i c at l)

pub one_more : (ts : List Resolved) (cs : List Conjunct) (i : ℕ) (c : Conjunct) (t : Resolved) → c ≡ get_or cs i c → i < length cs
    → map resolved_of ts ≡ map conjunct_of (take i cs) → resolved_of t ≡ conjunct_of c
    → map resolved_of (ts ++ t ∷ []) ≡ map conjunct_of (take (i + 1) cs)
one_more ts cs i c t at l h e =
    rw add-one (pushed ts t ∙ ap₂ (λ (rs : List ResolvedTree) (r : ResolvedTree). rs ++ r ∷ []) h e ∙ sym (front conjunct_of cs i c at l))

pub whole : {A : Type 0} → (cs : List A) (i : ℕ) → length cs ≤ i → take i cs ≡ cs
whole [] zero l = refl
whole [] (suc i) l = refl
whole (c ∷ cs) zero l = absurd (omega arith)
whole (c ∷ cs) (suc i) l = ap (λ ds. c ∷ ds) (whole cs i (omega arith))

pub all_done : (ts : List Resolved) (cs : List Conjunct) (i : ℕ) → length cs ≤ i → map resolved_of ts ≡ map conjunct_of (take i cs) → map resolved_of ts ≡ map conjunct_of cs
all_done ts cs i l h = h ∙ ap (map conjunct_of) (whole cs i l)
