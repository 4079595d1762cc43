-- The graph of a specification: its states, and the steps that its operations make.
use Rattle.std.specs.Prelude.{◌≡◌, ◌⊎◌, ℕ, ◌++◌, Bool, List, [], ◌∷◌, codes, map, Option, None, Some, slice_get}
use Rattle.zf_steps.specs.Prelude.{string_text, Edge, Explored, explored_of, Searched, Schema, binding_object, binding_text, Spelling, Value, value_order, ComesAfter, Event, IsEvent, Environment, property, AreRanges, values_at}
use Rattle.zf_walk.specs.declared.judge.Truth.TheVariants as truth
use Rattle.zf_steps.specs.declared.form.Form.{Form}
use Rattle.zf_steps.specs.declared.form.Form.TheVariants as forms
use Rattle.zf_steps.specs.declared.node.Label.{Label}
use Rattle.zf_steps.specs.declared.node.Node.{Node}
use Rattle.zf_steps.specs.declared.node.Node.TheVariants.{Root, State}
use Rattle.zf_steps.specs.Systems.{Operation, System}

-- ---- rows in parts

-- the value of this component of the state, if it is one
abbrev pub source_value : List Value → Option ℕ → Option Value
source_value values None = None
source_value values (Some place) = slice_get values place

-- what is held of a schema's components where the state before has these values
abbrev pub held_by : List (Option ℕ) → List Value → List (Option Value)
held_by sources values = map (source_value values) sources

-- a binding that is out, with the operation: `OPERATION: BINDING`,
abbrev pub stop_text : List Spelling → Operation → List Value → List ℕ
stop_text elements o row = o.name ++ codes ": " ++ binding_text elements o.schema.comps row

-- or `{"operation": "OPERATION", "binding": {..}}`
abbrev pub stop_object : List Spelling → Operation → List Value → List ℕ
stop_object elements o row = codes "{\"operation\": " ++ string_text o.name ++ codes ", \"binding\": " ++ binding_object elements o.schema.comps row ++ codes "}"

abbrev pub stopped : Form → List Spelling → Operation → List Value → List ℕ
stopped forms.Lines elements o row = stop_text elements o row
stopped forms.Graph elements o row = stop_text elements o row
stopped forms.Objects elements o row = stop_object elements o row

-- ---- what is found

-- a binding of the schema in which these values are held, and its truth, which is not False
pub record IsEventOf (e : Environment) (a : Schema) (held : List (Option Value)) (x : Event Value) : Type 0 where
  pub ranges : List (List Value)
  pub of_components : AreRanges e a.comps held ranges
  pub is : IsEvent value_order (property e a.conjuncts) ranges None x

-- the first of them
pub record IsFirstOf (e : Environment) (a : Schema) (held : List (Option Value)) (x : Event Value) : Type 0 where
  pub event : IsEventOf e a held x
  pub first : (y : Event Value) → IsEventOf e a held y → (y ≡ x) ⊎ ComesAfter value_order x.row y.row

module _ (m : System) where
  -- the initial states are those of one schema, the steps of a state those of the operations
  abbrev pub parts_of : Node → List Operation
  parts_of Root = m.init ∷ []
  parts_of (State values) = m.operations

  abbrev pub values_of : Node → List Value
  values_of Root = []
  values_of (State values) = values

  -- what an operation has of a node
  abbrev pub IsFoundAt : Node → Operation → Event Value → Type 0
  IsFoundAt a o x = IsEventOf m.environment o.schema (held_by o.sources (values_of a)) x

  -- the step of a binding: to the state after, labelled by the operation and by what else the binding has
  abbrev pub step : ℕ → Operation → Event Value → Edge Node Label
  step number o x = record { label = record { operation = number; values = values_at o.others x.row }; to = State (values_at o.after x.row) }

  abbrev pub stop : Operation → Event Value → List ℕ
  stop o x = stopped m.form m.elements o x.row

  -- Whether a state is a stray, since it satisfies the schema by which states are tested in no way, or that it can't be decided. What is before the initial states is none.
  abbrev pub IsStray : Node → Bool → Type 0
  IsStray Root b = b ≡ Bool.false
  IsStray (State values) Bool.true = (x : Event Value) → IsEventOf m.environment m.test.schema (held_by m.test.sources values) x → ⊥
  IsStray (State values) Bool.false = (row : List Value) × IsFirstOf m.environment m.test.schema (held_by m.test.sources values) (record { row = row; truth = truth.True })

  abbrev pub IsDoubtful : Node → List ℕ → Type 0
  IsDoubtful Root at = ⊥
  IsDoubtful (State values) at =
      (row : List Value) × IsFirstOf m.environment m.test.schema (held_by m.test.sources values) (record { row = row; truth = truth.Out })
      × (at ≡ stop m.test (record { row = row; truth = truth.Out }))

  -- What is searched, where this tells whether two nodes are one.
  abbrev pub searched : (Node → Node → Bool) → Searched Node Label Operation (Event Value)
  searched eq = record {
    root = Root;
    eq = eq;
    parts = parts_of;
    Has = IsFoundAt;
    IsBefore = λ x y. ComesAfter value_order x.row y.row;
    Holds = λ x. x.truth ≡ truth.True;
    IsOut = λ x. x.truth ≡ truth.Out;
    edge = step;
    stop = stop;
    IsStray = IsStray;
    IsDoubtful = IsDoubtful;
  }

  abbrev pub exploration : (Node → Node → Bool) → Explored Node Label
  exploration eq = explored_of (searched eq)
