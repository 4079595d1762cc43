-- The row that is named has a value of each component.
use Rattle.zf_engine.proofs.Prelude.{◌∷◌, ◌≡◌, [], ap, arith, length, List, None, Option, Some, ℕ, Value, Comp, Environment, IsNamedRow, HasLength, IsRow}

row_length : (e : Environment) (comps : List Comp) (row : List Value) → IsRow e comps row → length row ≡ length comps
row_length e [] row h = ap (λ (vs : List Value). length vs) h
row_length e (c ∷ comps) row (v, vs, is, of_type, rest) =
    let ih : length vs ≡ length comps = row_length e comps vs rest in
    let l : length row ≡ length (v ∷ vs) = ap (λ (ws : List Value). length ws) is in omega (arith, ih, l)

pub named_length : (e : Environment) (comps : List Comp) (text : Option (List ℕ)) (after : Option (List Value)) → IsNamedRow e comps text after → HasLength after (length comps)
named_length e comps text None h = tt
named_length e comps None (Some row) h = cc
named_length e comps (Some text) (Some row) h = row_length e comps row h.0
