-- What laws say of components: each name stands once.
use Rattle.std.specs.Prelude.{◌≡◌, ℕ, List, [], ◌∷◌, None}
use Rattle.zf_calculus.specs.Prelude.{Comp, first_named}

-- no two have one name
abbrev pub EachOnce : {A : Type 0} → (A → List ℕ) → List A → Type 0
EachOnce name [] = Unit {0}
EachOnce name (a ∷ rest) = (first_named name (name a) rest ≡ None) × EachOnce name rest

abbrev pub AreOnce : List Comp → Type 0
AreOnce = EachOnce (λ c. c.name)
