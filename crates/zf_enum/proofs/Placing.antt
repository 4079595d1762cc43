-- The row that the last step gave, by the places of its values.
use Rattle.zf_enum.proofs.Prelude.{◌<◌, ◌≡◌, [], arith, length, List, None, Option, Some, ℕ, IfSome, IsSomeAnd, slice_get, unwrap_or}

-- there is one, if it has a value
pub is_given : {V : Type 0} (last : Option (List V)) (i : ℕ) → i < length (unwrap_or last []) → IsSomeAnd last (λ row. i < length row)
is_given None i h = absurd (omega (arith, h))
is_given (Some row) i h = h

pub of_given : {V : Type 0} (last : Option (List V)) (i : ℕ) (o : Option V) → i < length (unwrap_or last []) → IfSome last (λ row. slice_get row i ≡ o)
    → slice_get (unwrap_or last []) i ≡ o
of_given None i o h k = absurd (omega (arith, h))
of_given (Some row) i o h k = k
