-- A specification as a machine. No public clause rests on this file, but those of the machine.
use Rattle.std.specs.Prelude.{◌≡◌, ℕ, ◌+◌, ◌<◌, Bool, List, length, map, Option, None, Some, slice_get}
use Rattle.zf_steps.specs.Prelude.{Turn, Environment, AdvancesTo, BeginsAs, UnlessOut, Schema, Value, value_order, Spelling, Stage, values_at}
use Rattle.zf_lines.proofs.Fewer.{ahead_count}
use Rattle.zf_reach.specs.declared.machine.Beginning.{Beginning}
use Rattle.zf_reach.specs.declared.machine.Beginning.TheVariants as beginnings
use Rattle.zf_reach.specs.declared.machine.Found.{Found}
use Rattle.zf_reach.specs.declared.machine.Found.TheVariants as founds
use Rattle.zf_reach.specs.declared.sight.Sight.{Sight}
use Rattle.zf_reach.specs.declared.sight.Sight.TheVariants as sights
use Rattle.zf_walk.specs.declared.step.Step.TheVariants as steps
use Rattle.zf_steps.specs.declared.cursor.Part.{Part}
use Rattle.zf_steps.specs.declared.cursor.Part.TheVariants as parts
use Rattle.zf_steps.specs.declared.form.Form.{Form}
use Rattle.zf_steps.specs.declared.node.Label.{Label}
use Rattle.zf_steps.specs.declared.node.Node.{Node}
use Rattle.zf_steps.specs.declared.node.Node.TheVariants.{Root, State}
use Rattle.zf_steps.specs.declared.stepped.Stepped.{Stepped}
use Rattle.zf_steps.specs.Fitting.{AreFor}
use Rattle.zf_steps.specs.Searching.{HasFound, HasPassed}
use Rattle.zf_steps.specs.Steps.{exploration, stopped}
use Rattle.zf_steps.specs.Systems.{Operation, System}

-- ---- which part is searched

abbrev pub number_of : Part → ℕ
number_of parts.Initial = 0
number_of (parts.Operation number) = number

-- the part is one of the node
abbrev pub IsPartOf : Part → Node → Type 0
IsPartOf parts.Initial Root = Unit {0}
IsPartOf parts.Initial (State values) = ⊥
IsPartOf (parts.Operation number) Root = ⊥
IsPartOf (parts.Operation number) (State values) = Unit {0}

-- its search
abbrev pub search_of : {S : Type 0} → Part → (init : S) → (operations : List S) → Option S
search_of parts.Initial init operations = Some init
search_of (parts.Operation number) init operations = slice_get operations number

-- how many rows are ahead of it
abbrev pub rows_ahead : Stage Value → ℕ
rows_ahead b = ahead_count value_order b.ranges b.ahead

abbrev pub rows_ahead_at : {S : Type 0} → (S → Stage Value) → Option S → ℕ
rows_ahead_at stage None = 0
rows_ahead_at stage (Some s) = rows_ahead (stage s)

-- ---- the searches are those of the specification

abbrev pub HasPart : System → Part → Type 0
HasPart m parts.Initial = Unit {0}
HasPart m (parts.Operation number) = number < length m.operations

pub record Fits {S : Type 0} (IsFor : S → Environment → Schema → Type 0) (m : System) (state init : S) (operations : List S) (part : Part) : Type 0 where
  pub of_state : IsFor state m.environment m.test.schema
  pub of_init : IsFor init m.environment m.init.schema
  pub of_operations : AreFor IsFor m.environment (map (λ o. o.schema) m.operations) operations
  pub has_part : HasPart m part

-- ---- what a step of a search is taken for

-- as what is seen of a state, by the search for it in the schema by which it is tested
abbrev pub IsSight : Form → (elements : List Spelling) → Operation → Stepped → Sight → (stop : List ℕ) → Type 0
IsSight form elements o s sights.Sought stop = s.step ≡ steps.Holds
IsSight form elements o s sights.Other stop = s.step ≡ steps.End
IsSight form elements o s sights.Untold stop = (s.step ≡ steps.Breaks) × (stop ≡ stopped form elements o s.row.items)

-- how its turn begins then
abbrev pub begun_as : Sight → Beginning
begun_as sights.Sought = beginnings.Regular
begun_as sights.Other = beginnings.Stray
begun_as sights.Untold = beginnings.Out

-- as what is found of the steps by an operation
abbrev pub IsFound : Form → (elements : List Spelling) → (number : ℕ) → Operation → Stepped → Found Node Label → (stop : List ℕ) → Type 0
IsFound form elements number o s (founds.Edge label to) stop =
    (s.step ≡ steps.Holds) × (label ≡ record { operation = number; values = values_at o.others s.row.items }) × (to ≡ State (values_at o.after s.row.items))
IsFound form elements number o s founds.Over stop = s.step ≡ steps.End
IsFound form elements number o s founds.Out stop = (s.step ≡ steps.Breaks) × (stop ≡ stopped form elements o s.row.items)

-- ---- what they come to

module _ (m : System) (eq : Node → Node → Bool) where
  -- the search for the steps of a part stands after those of the turn so far
  pub record Stands {S : Type 0} (stage : S → Stage Value) (part : Part) (searched : Option S) (a : Node) (now : Turn Node Label) : Type 0 where
    pub of_node : IsPartOf part a
    pub search : S
    pub is : searched ≡ Some search
    pub operation : Operation
    pub found : HasFound m eq a (number_of part) operation (stage search) now

  -- the turn of a node begins so, or can't be decided
  abbrev pub BeginsState : Node → Beginning → (stop : List ℕ) → Type 0
  BeginsState a b stop = (now : Turn Node Label) × BeginsAs (exploration m eq) b a now stop × UnlessOut b (HasPassed m eq a 0 now)

  -- the search for steps by an operation goes on, whatever turn it is for
  abbrev pub GoesOn : (number : ℕ) → Operation → (old new : Stage Value) → Found Node Label → (stop : List ℕ) → Type 0
  GoesOn number o old new f stop =
      (a : Node) (now : Turn Node Label) → HasFound m eq a number o old now → AdvancesTo (exploration m eq) f a now (HasFound m eq a number o new) (HasPassed m eq a (number + 1)) stop
