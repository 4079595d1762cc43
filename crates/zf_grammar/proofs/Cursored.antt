-- What a cursor shows of the symbols of a text.
use Rattle.zf_grammar.proofs.Prelude.{◌∷◌, ◌≡◌, ◌≤◌, [], arith, length, List, map, refl, slice_index_or, ℕ, next_of, kind_at, token_at, Placed, first}

pub first_at : (text : List ℕ) (ps : List Placed) (d : Placed) → 1 ≤ length ps → next_of (kind_at text (slice_index_or ps 0 d)) ≡ first (map (token_at text) ps)
first_at text [] d h = absurd (omega arith)
first_at text (p ∷ ps) d h = refl
