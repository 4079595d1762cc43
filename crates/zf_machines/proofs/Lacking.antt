-- Which schemas make a machine.
use Rattle.zf_machines.proofs.Prelude.{◌≡◌, ◌∷◌, [], ap, inr, List, map, None, Option, refl, Some, ℕ, AllByRecursion, MatchOption, AllowsSought, CanBeInitial, CanStep, HasShape, LacksBehind, LacksFirst, Named, Schemas, SoughtLacks, state_of, LacksStep, Comp}
use Rattle.zf_machines.specs.declared.shape.Lack.{Lack}

-- an operation of the first name lacks the component of the second one
abbrev pub LacksIt : List Comp → List ℕ × List ℕ → Named → Type 0
LacksIt state names o = (names.0 ≡ o.name) × LacksStep state o.schema names.1

pub map_map : {X Y Z : Type 0} (h : Y → Z) (f : X → Y) (xs : List X) → map (λ x. h (f x)) xs ≡ map h (map f xs)
map_map h f [] = refl
map_map h f (x ∷ xs) = ap (λ ys. h (f x) ∷ ys) (map_map h f xs)

-- the initial states have what they need, and what is found of the others decides
pub shape_by : (p : Schemas) (o : Option Lack) → CanBeInitial (state_of p) p.init.schema
    → MatchOption o (AllByRecursion (CanStep (state_of p)) p.operations × AllowsSought (state_of p) p.sought) (λ k. LacksBehind (state_of p) p k.schema.now k.component.now)
    → MatchOption o (HasShape p) (λ k. LacksFirst p k.schema.now k.component.now)
shape_by p None init all = record { init = init; operations = all.0; sought = all.1 }
shape_by p (Some k) init lacks = inr (init, lacks)

-- so do the operations, and what is found of what is sought decides
pub behind_by : (state : List Comp) (p : Schemas) (o : Option Lack) → AllByRecursion (CanStep state) p.operations
    → MatchOption o (AllowsSought state p.sought) (λ k. SoughtLacks state p.sought k.schema.now k.component.now)
    → MatchOption o (AllByRecursion (CanStep state) p.operations × AllowsSought state p.sought) (λ k. LacksBehind state p k.schema.now k.component.now)
behind_by state p None all allows = (all, allows)
behind_by state p (Some k) all lacks = inr (all, lacks)
