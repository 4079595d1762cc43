-- The lines of what is chosen, one after another.
use Rattle.zf_answers.proofs.Prelude.{◌++◌, ◌+◌, ◌<◌, ◌∙◌, ◌≡◌, [], ap, append_assoc, Bool, false, length, List, refl, Some, sym, true, ℕ, drop, slice_get, flat_map, stays_out_at}
use Rattle.zf_cores.specs.{chosen_of}
use Rattle.zf_cores.proofs.Choosing.{goes_in}

module _ {A : Type 0} (f : A → List ℕ) (xs : List A) (m : List Bool) (i : ℕ) (lines whole : List ℕ)
    (is : lines ++ flat_map f (chosen_of (drop i xs) (drop i m)) ≡ whole) where
  pub one_chosen : (x : A) (next : List ℕ) → slice_get xs i ≡ Some x → slice_get m i ≡ Some true → next ≡ lines ++ f x
      → next ++ flat_map f (chosen_of (drop (i + 1) xs) (drop (i + 1) m)) ≡ whole
  one_chosen x next at chosen step =
      let rest = flat_map f (chosen_of (drop (i + 1) xs) (drop (i + 1) m)) in
      ap (λ ls. ls ++ rest) step ∙ append_assoc lines (f x) rest
      ∙ ap (λ ys. lines ++ flat_map f ys) (sym (goes_in (chosen_of (drop i xs) (drop i m)) [] xs m i x at chosen refl)) ∙ is

  pub one_left : i < length xs → slice_get m i ≡ Some false → lines ++ flat_map f (chosen_of (drop (i + 1) xs) (drop (i + 1) m)) ≡ whole
  one_left l left = ap (λ ys. lines ++ flat_map f ys) (sym (stays_out_at (chosen_of (drop i xs) (drop i m)) [] xs m i l left refl)) ∙ is
