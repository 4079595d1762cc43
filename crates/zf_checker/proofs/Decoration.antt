-- Decoration changes names alone.
use Rattle.zf_checker.proofs.Prelude.{◌++◌, ◌∷◌, ◌≡◌, [], ap, List, map, refl, ℕ, Comp, comp, DecorationRenames}

pub through : {A B C : Type 0} (f : A → B) (h : B → C) (xs : List A) → map h (map f xs) ≡ map (λ x. h (f x)) xs
through f h [] = refl
through f h (x ∷ xs) = ap (λ rest. h (f x) ∷ rest) (through f h xs)

abbrev renamed : List ℕ → Comp → Comp
renamed strokes c = comp (c.name ++ strokes) c.type c.sets

pub decoration_renames : DecorationRenames
decoration_renames strokes a = (
  refl,
  through (renamed strokes) (λ c. c.name) a.comps,
  through (renamed strokes) (λ c. c.type) a.comps,
  through (renamed strokes) (λ c. c.sets) a.comps,
)
