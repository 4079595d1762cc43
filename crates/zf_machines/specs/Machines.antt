-- The machine that schemas make: that of the state, that of the initial states, the operations, and what is sought among the states, if something is.
use Rattle.std.specs.Prelude.{◌≡◌, ◌⊎◌, ℕ, List, ◌∷◌, ◌++◌, map, None, Option, option_to_list, Some, unwrap_or}
use Rattle.zf_machines.specs.Prelude.{AllByRecursion, Environment, both_states, CanBeSought, HasAll, IsInit, LacksInit, LacksSought, LacksStep, operation_in, System, test_in, with_strokes, Comp, Schema}
use Rattle.zf_steps.specs.declared.form.Form.{Form}
use Rattle.zf_print.specs.declared.spelling.Spelling.{Spelling}
use Rattle.zf_machines.specs.Firsts.{FirstFails}

-- a schema with its name
pub record Named : Type 0 where
  pub name : List ℕ
  pub schema : Schema

pub record Schemas : Type 0 where
  pub state : Named
  pub init : Named
  pub operations : List Named
  pub sought : Option Named

-- the schemas in their order
abbrev pub all_of : Schemas → List Named
all_of p = p.state ∷ p.init ∷ (p.operations ++ option_to_list p.sought)

-- the components of the state
abbrev pub state_of : Schemas → List Comp
state_of p = p.state.schema.comps

-- States are tested by what is sought, or else by the schema of the state.
abbrev pub test_of : Schemas → Named
test_of p = unwrap_or p.sought p.state

-- The initial states have the components of the state, all with a stroke or all without,
abbrev pub CanBeInitial : (state : List Comp) → Schema → Type 0
CanBeInitial state a = HasAll a.comps (with_strokes state) ⊎ HasAll a.comps state

-- each operation those of the state before and after,
abbrev pub CanStep : (state : List Comp) → Named → Type 0
CanStep state o = HasAll o.schema.comps (both_states state)

-- and what is sought shares with the state only components of its types.
abbrev pub AllowsSought : (state : List Comp) → Option Named → Type 0
AllowsSought state None = Unit {0}
AllowsSought state (Some o) = CanBeSought state o.schema

pub record HasShape (p : Schemas) : Type 0 where
  pub init : CanBeInitial (state_of p) p.init.schema
  pub operations : AllByRecursion (CanStep (state_of p)) p.operations
  pub sought : AllowsSought (state_of p) p.sought

-- The first of the operations that lacks a component has this name, and that component this one.
abbrev pub LacksStepFirst : (state : List Comp) → List Named → (name component : List ℕ) → Type 0
LacksStepFirst state os name component = FirstFails (CanStep state) (λ o. (name ≡ o.name) × LacksStep state o.schema component) os

-- the same of what is sought, which has a component of the state at another type
abbrev pub SoughtLacks : (state : List Comp) → Option Named → (name component : List ℕ) → Type 0
SoughtLacks state None name component = ⊥
SoughtLacks state (Some o) name component = (name ≡ o.name) × LacksSought state o.schema component

-- of the operations and what is sought
abbrev pub LacksBehind : (state : List Comp) → Schemas → (name component : List ℕ) → Type 0
LacksBehind state p name component =
    LacksStepFirst state p.operations name component ⊎ (AllByRecursion (CanStep state) p.operations × SoughtLacks state p.sought name component)

-- of all schemas
abbrev pub LacksFirst : Schemas → (name component : List ℕ) → Type 0
LacksFirst p name component =
    ((name ≡ p.init.name) × LacksInit (state_of p) p.init.schema component) ⊎ (CanBeInitial (state_of p) p.init.schema × LacksBehind (state_of p) p name component)

-- the machine in an environment, with how elements are spelled, and the form in which it is written
pub record IsMachineOf (e : Environment) (elements : List Spelling) (form : Form) (p : Schemas) (m : System) : Type 0 where
  pub environment : m.environment ≡ e
  pub spelled : m.elements ≡ elements
  pub formed : m.form ≡ form
  pub state : m.state ≡ p.state.schema
  pub test : m.test ≡ test_in (state_of p) (test_of p).name (test_of p).schema
  pub init : IsInit (state_of p) p.init.name p.init.schema m.init
  pub operations : m.operations ≡ map (λ o. operation_in (state_of p) o.name o.schema) p.operations
