-- Variables that are looked through one by one, and those after them.
use Rattle.zf_typing.proofs.Prelude.{◌++◌, ◌+◌, ◌-◌, ◌∙◌, ◌∷◌, ◌≡◌, [], ap, arith, length, List, map, None, refl, Some, suc, sym, take, zero, ℕ, take-append_seam, take-nil, last_named, Var}

module _ {A : Type 0} where
  pub take_both : (n : ℕ) (few many : List A) → take n few ++ take (n - length few) many ≡ take n (few ++ many)
  take_both n [] many = let all : n - 0 ≡ n = omega arith in ap (λ xs. xs ++ take (n - 0) many) (take-nil n) ∙ ap (λ k. take k many) all
  take_both zero (x ∷ few) many = let none : 0 - suc (length few) ≡ 0 = omega arith in ap (λ k. take k many) none
  take_both (suc n) (x ∷ few) many =
      let less : suc n - suc (length few) ≡ n - length few = omega arith in
      ap (λ k. x ∷ take n few ++ take k many) less ∙ ap (λ xs. x ∷ xs) (take_both n few many)

module _ {X : Type 0} (f : X → Var) (x : List ℕ) where
  pub last_behind : (few many : List X) (p : ℕ) (v : Var) → Some (p, v) ≡ last_named (λ u. u.name) x (map f many) → Some (length few + p, v) ≡ last_named (λ u. u.name) x (map f (few ++ many))
  last_behind [] many p v e = let same : 0 + p ≡ p = omega arith in ap (λ m. Some (m, v)) same ∙ e
  last_behind (y ∷ few) many p v e = let next : suc (length few) + p ≡ length few + p + 1 = omega arith in rw (sym (last_behind few many p v e)) (ap (λ m. Some (m, v)) next)

  pub none_in_many : (few many : List X) → None ≡ last_named (λ u. u.name) x (map f many) → last_named (λ u. u.name) x (map f few) ≡ last_named (λ u. u.name) x (map f (few ++ many))
  none_in_many [] many e = e
  none_in_many (y ∷ few) many e = rw (sym (none_in_many few many e)) refl

module _ {A : Type 0} where
  abbrev pub BeginsWith : List A → List A → Type 0
  BeginsWith old now = (xs : List A) × (now ≡ old ++ xs)

  pub front_kept : (old now : List A) → BeginsWith old now → take (length old) now ≡ old
  front_kept old now b = ap (take (length old)) b.1 ∙ take-append_seam old b.0
