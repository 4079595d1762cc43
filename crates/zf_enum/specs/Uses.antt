-- Which components a term uses: for private contracts alone.
use Rattle.std.specs.Prelude.{ℕ, Bool, true, false, cond, eqb, List, [], ◌∷◌, Option, Some, None, slice_get}
use Rattle.zf_enum.specs.Prelude.{Reference, Component, Local, Global, references, ResolvedTree}

-- whether the name is of this component
abbrev pub is_component : ℕ → Reference → Bool
is_component k (Component i) = eqb i k
is_component k (Local i) = false
is_component k (Global i) = false

abbrev pub is_among : ℕ → List Reference → Bool
is_among k [] = false
is_among k (r ∷ rs) = cond (is_component k r) true (is_among k rs)

-- whether the term names this component
abbrev pub uses : ResolvedTree → ℕ → Bool
uses t k = is_among k (references t)

abbrev pub uses_of : Option ResolvedTree → ℕ → Bool
uses_of None k = false
uses_of (Some t) k = uses t k

-- whether the conjunct at a place names this component
abbrev pub are_used : List ResolvedTree → ℕ → ℕ → Bool
are_used ts c k = uses_of (slice_get ts c) k
