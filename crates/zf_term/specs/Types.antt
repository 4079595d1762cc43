-- Types, without where they stand in memory (ZRM, 2.2).
use Rattle.std.specs.Prelude.{ℕ, ◌+◌, Bool, true, false, ◌||◌, List, [], ◌∷◌, ◌≤◌}

mutual
  pub data Ty : Type 0 where
    int : Ty
    basic : (name : List ℕ) → Ty
    power : Ty → Ty
    product : Tys → Ty

  pub data Tys : Type 0 where
    no_types : Tys
    type : Ty → Tys → Tys

abbrev pub types : List Ty → Tys
types [] = no_types
types (t ∷ ts) = type t (types ts)

abbrev pub pair_type : Ty → Ty → Ty
pair_type t u = product (type t (type u no_types))

-- the number of nodes: of `\num`, of basic types, of power sets and of products
abbrev mutual
  pub type_nodes : Ty → ℕ
  type_nodes int = 1
  type_nodes (basic name) = 1
  type_nodes (power t) = type_nodes t + 1
  type_nodes (product ts) = nodes_of_all ts + 1

  pub nodes_of_all : Tys → ℕ
  nodes_of_all no_types = 0
  nodes_of_all (type t ts) = type_nodes t + nodes_of_all ts

abbrev pub type_nodes_max : ℕ
type_nodes_max = 256

-- a type within the limit
abbrev pub IsSmall : Ty → Type 0
IsSmall t = type_nodes t ≤ type_nodes_max

-- numbers are parts of the values of the type
abbrev mutual
  pub has_numbers : Ty → Bool
  has_numbers int = true
  has_numbers (basic name) = false
  has_numbers (power t) = has_numbers t
  has_numbers (product ts) = have_numbers ts

  pub have_numbers : Tys → Bool
  have_numbers no_types = false
  have_numbers (type t ts) = has_numbers t || have_numbers ts
