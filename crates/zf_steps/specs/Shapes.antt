-- The schemas of a machine: which of their components are those of the state before, and which those of the state after.
use Rattle.std.specs.Prelude.{◌≡◌, ◌⊎◌, ◌++◌, ◌+◌, ◌&&◌, if◌then◌else◌, ℕ, Bool, not, cond, List, [], ◌∷◌, codes, map, Option, Some, is_some, option_map}
use Rattle.zf_steps.specs.Prelude.{AllByRecursion, filter_map, list_any, Comp, first_named, Schema, comps_at}
use Rattle.zf_steps.specs.Systems.{Operation}

-- ---- components

-- the place of the component of this name
abbrev pub place_of : List Comp → (name : List ℕ) → Option ℕ
place_of comps name = option_map (λ p. p.0) (first_named (λ c. c.name) name comps)

-- there is a component with the name and the type of this one
pub record Has (comps : List Comp) (c : Comp) : Type 0 where
  pub place : ℕ
  pub component : Comp
  pub named : first_named (λ d. d.name) c.name comps ≡ Some (place, component)
  pub typed : component.type ≡ c.type

abbrev pub HasAll : List Comp → (wanted : List Comp) → Type 0
HasAll comps wanted = AllByRecursion (Has comps) wanted

-- the first of the components that are wanted and are not there has this name
abbrev pub Lacks : List Comp → (wanted : List Comp) → (name : List ℕ) → Type 0
Lacks comps [] name = ⊥
Lacks comps (c ∷ cs) name = ((Has comps c → ⊥) × (name ≡ c.name)) ⊎ (Has comps c × Lacks comps cs name)

-- where the components are that are wanted
abbrev pub places_of : List Comp → (wanted : List Comp) → List ℕ
places_of comps wanted = filter_map (λ c. place_of comps c.name) wanted

-- ---- states

-- a component of the state after: it has one more stroke
abbrev pub stroked : Comp → Comp
stroked c = record { name = c.name ++ codes "'"; type = c.type; sets = c.sets }

abbrev pub with_strokes : (state : List Comp) → List Comp
with_strokes state = map stroked state

-- which component of the state before each of these is
abbrev pub sources_of : (state : List Comp) → List Comp → List (Option ℕ)
sources_of state comps = map (λ c. place_of state c.name) comps

-- whether neither state has a component of the name
abbrev pub is_other : (state : List Comp) → (name : List ℕ) → Bool
is_other state name = cond (is_some (place_of state name)) Bool.false (not (is_some (place_of (with_strokes state) name)))

-- the places of such components, from this place on
abbrev pub others_from : (state : List Comp) → (place : ℕ) → List Comp → List ℕ
others_from state place [] = []
others_from state place (c ∷ cs) = cond (is_other state c.name) (place ∷ []) [] ++ others_from state (place + 1) cs

-- ---- schemas that can be sought

-- where there is a component with the name of this one, it has its type
abbrev pub Allows : List Comp → Comp → Type 0
Allows comps c = (place : ℕ) (component : Comp) → first_named (λ d. d.name) c.name comps ≡ Some (place, component) → component.type ≡ c.type

abbrev pub AllowsAll : List Comp → (state : List Comp) → Type 0
AllowsAll comps state = AllByRecursion (Allows comps) state

-- the first component of the state whose name is there at another type has this name
abbrev pub StateClashes : List Comp → (state : List Comp) → (name : List ℕ) → Type 0
StateClashes comps [] name = ⊥
StateClashes comps (c ∷ cs) name = ((Allows comps c → ⊥) × (name ≡ c.name)) ⊎ (Allows comps c × StateClashes comps cs name)

-- What is sought shares with the state only components that have the state's types.
abbrev pub CanBeSought : (state : List Comp) → Schema → Type 0
CanBeSought state a = AllowsAll a.comps state

abbrev pub LacksSought : (state : List Comp) → Schema → (name : List ℕ) → Type 0
LacksSought state a name = StateClashes a.comps state name

-- ---- the schemas of a machine

-- a schema by which states are tested, with their components
abbrev pub test_in : (state : List Comp) → (name : List ℕ) → Schema → Operation
test_in state name a = record { name = name; schema = a; sources = sources_of state a.comps; after = []; others = []; label = state }

-- that of the initial states, whose components are these
abbrev pub init_in : (wanted : List Comp) → (name : List ℕ) → Schema → Operation
init_in wanted name a = record { name = name; schema = a; sources = []; after = places_of a.comps wanted; others = []; label = [] }

-- They are those of the state with a stroke, if it has all of these, or else those of the state.
abbrev pub IsInit : (state : List Comp) → (name : List ℕ) → Schema → Operation → Type 0
IsInit state name a o =
    (HasAll a.comps (with_strokes state) × (o ≡ init_in (with_strokes state) name a)) ⊎ ((HasAll a.comps (with_strokes state) → ⊥) × HasAll a.comps state × (o ≡ init_in state name a))

-- whether one of these has the name of one that is wanted
abbrev pub names_any : List Comp → (wanted : List Comp) → Bool
names_any comps wanted = list_any (λ c. is_some (place_of comps c.name)) wanted

-- Which of the two are meant, where it has neither all: those with a stroke, if it names one of these, and none without.
abbrev pub are_after : (state : List Comp) → List Comp → Bool
are_after state comps = names_any comps (with_strokes state) && not (names_any comps state)

abbrev pub meant_in : (state : List Comp) → List Comp → List Comp
meant_in state comps = if are_after state comps then with_strokes state else state

abbrev pub LacksInit : (state : List Comp) → Schema → (name : List ℕ) → Type 0
LacksInit state a name = (HasAll a.comps (with_strokes state) → ⊥) × Lacks a.comps (meant_in state a.comps) name

-- an operation has the components of both states
abbrev pub both_states : (state : List Comp) → List Comp
both_states state = state ++ with_strokes state

abbrev pub operation_in : (state : List Comp) → (name : List ℕ) → Schema → Operation
operation_in state name a = record {
  name = name;
  schema = a;
  sources = sources_of state a.comps;
  after = places_of a.comps (with_strokes state);
  others = others_from state 0 a.comps;
  label = comps_at a.comps (others_from state 0 a.comps);
}

abbrev pub LacksStep : (state : List Comp) → Schema → (name : List ℕ) → Type 0
LacksStep state a name = Lacks a.comps (both_states state) name
