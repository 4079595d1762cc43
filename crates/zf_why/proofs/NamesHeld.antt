-- Whether names are held, one after another.
use Rattle.zf_why.proofs.Prelude.{◌+◌, ◌∙◌, ◌∷◌, ◌≡◌, [], ap, arith, Bool, false, List, not, Option, refl, sym, true, ℕ, ResolvedTree, Value, cond, max, Reference, onto, references, term, are_held, flag, is_held, lacks, name_lacks}
use Rattle.zf_shape.proofs.Greatest.{among_names, greatest_among, of_term}

module _ (held : List (Option Value)) where
  first_or_later : (here later : Bool) → max (cond here 0 1) (flag (not later)) ≡ flag (not (cond here later false))
  first_or_later true true = refl
  first_or_later true false = refl
  first_or_later false true = refl
  first_or_later false false = refl

  all_names : (rs : List Reference) → greatest_among (name_lacks held) rs ≡ flag (not (are_held held rs))
  all_names [] = refl
  all_names (r ∷ rs) = ap (max (name_lacks held r)) (all_names rs) ∙ first_or_later (is_held held r) (are_held held rs)

  none_found : (b : Bool) → flag (not b) ≡ 0 → b ≡ true
  none_found true is = refl
  none_found false is = absurd (omega (arith, is))

  one_found : (i : ℕ) (b : Bool) → i + 1 ≡ flag (not b) → false ≡ b
  one_found i true is = absurd (omega (arith, is))
  one_found i false is = refl

  -- what is found of a term, as what its names say
  pub none_lacks : (t : ResolvedTree) → 0 ≡ max 0 (lacks held t) → true ≡ are_held held (references t)
  none_lacks t is =
      let none : lacks held t ≡ 0 = omega (arith, is) in
      sym (none_found _ (sym (all_names (references t)) ∙ sym (among_names (name_lacks held) t) ∙ none))

  pub one_lacks : (t : ResolvedTree) (i : ℕ) → i + 1 ≡ max 0 (lacks held t) → false ≡ are_held held (references t)
  one_lacks t i is =
      let one : i + 1 ≡ lacks held t = omega (arith, is) in
      one_found i _ (one ∙ among_names (name_lacks held) t ∙ all_names (references t))

  -- what is held with more names is held before
  pub held_before : (rs : List Reference) (t : ResolvedTree) → are_held held (onto rs t) ≡ true → are_held held rs ≡ true
  held_before rs t is =
      let whole : greatest_among (name_lacks held) (onto rs t) ≡ 0 = all_names (onto rs t) ∙ ap (λ b. flag (not b)) is in
      none_found (are_held held rs) (sym (all_names rs) ∙ omega (arith, of_term (name_lacks held) rs t, whole))
