-- The row that a step gave, by the places of its values.
use Rattle.zf_walk.proofs.Prelude.{◌<◌, ◌∙◌, ◌≡◌, [], ap, arith, Bool, cond, false, get_or, length, List, None, Some, subst, sym, take, true, ℕ, get_or-take, get_or_default, length-take, IfSome, IsSomeAnd, slice_get, AreWithin, picked}
use Rattle.zf_walk.proofs.Picks.{length-picked, slice_get-picked}

last-long : {V : Type 0} (given : Bool) (row : List V) (i : ℕ) → IsSomeAnd (cond given (Some row) None) (λ r. i < length r) → i < length row
last-long true row i h = h
last-long false row i h = absurd h

of-last : {V : Type 0} (given : Bool) (row : List V) (P : List V → Type 0) → P row → IfSome (cond given (Some row) None) P
of-last true row P p = p
of-last false row P p = tt

module _ {V : Type 0} (ranges : List (List V)) (places : List ℕ) (depth : ℕ) (given : Bool) (i : ℕ) (within : AreWithin ranges (take depth places))
    (h : IsSomeAnd (cond given (Some (picked ranges (take depth places))) None) (λ row. i < length row)) where
  -- each value has a place
  pub placed : i < length (take depth places)
  placed = subst (λ n. i < n) (length-picked ranges (take depth places) within) (last-long given (picked ranges (take depth places)) i h)

  pub placed_deep : i < depth
  placed_deep = let l = placed in omega (arith, length-take depth places)

  pub placed_at : i < length places
  placed_at = let l = placed in omega (arith, length-take depth places)

  -- and stands at it in its range
  pub stands_there : (q : ℕ) → q ≡ get_or places i q → IfSome (cond given (Some (picked ranges (take depth places))) None) (λ row. slice_get row i ≡ slice_get (get_or ranges i []) q)
  stands_there q e = of-last given (picked ranges (take depth places)) (λ row. slice_get row i ≡ slice_get (get_or ranges i []) q)
      (slice_get-picked ranges (take depth places) i within placed
      ∙ ap (slice_get (get_or ranges i [])) (get_or-take depth places i 0 placed_deep ∙ get_or_default places i 0 q placed_at ∙ sym e))
