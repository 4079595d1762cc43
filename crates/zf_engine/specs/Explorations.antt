-- What `reach` answers: its schemas, by which it is refused, and the text of what can be reached, or of a search for a state.
use Rattle.std.specs.Prelude.{◌≡◌, ◌++◌, ℕ, List, [], ◌∷◌, cond, Option, None, Some, option_to_list, unwrap_or}
use Rattle.zf_engine.specs.Prelude.{AllByRecursion, AllZip, Exploration, Format, Lines, Objects, Defined, Schema, IsFinite, AreComplete, Environment, given_sets, IsEnvironment, IsNoneOut, spellings, all_of, FirstFails, HasShape, IsMachineOf, LacksFirst, Named, Schemas, Status, BadRequest, Done, PastBounds, Message}
use Rattle.zf_command.specs.declared.limit.TheConstants.{STATES_MAX}
use Rattle.zf_graph.specs.Seeking as seeking
use Rattle.zf_graph.specs.Texts as graph
use Rattle.zf_messages.specs.Texts as messages
use Rattle.zf_graph.specs.{broken, ended, Ending, paused}
use Rattle.zf_steps.specs.declared.form.Form.{Form}
use Rattle.zf_steps.specs.declared.form.Form.TheVariants as form
use Rattle.zf_steps.specs.{explored_in, sought_in, System, verdict, words}
use Rattle.zf_answers.specs.Numbers.{AreSmall}
use Rattle.zf_answers.specs.Settings.{AreMessages, Checks, IsNamed, numbers_of, stated, TellsFaults, TellsInfinite, TellsMisfit, TellsNoSchema, TellsNumbers, TellsOut}

-- ---- what is asked for

-- the names of the schemas, in their order; that of which a state is sought is the last
abbrev pub names_of : Exploration → List (List ℕ)
names_of x = x.state ∷ x.initial ∷ (x.operations ++ option_to_list x.sought)

-- the name is that of a schema
abbrev pub IsOfSchema : List Defined → List ℕ → Type 0
IsOfSchema g name = (a : Schema) × IsNamed g name a

-- this is the schema of the name
abbrev pub IsSchemaOf : List Defined → List ℕ → Named → Type 0
IsSchemaOf g name n = (n.name ≡ name) × IsNamed g name n.schema

-- these are the schemas of the names
pub record AreSchemasOf (g : List Defined) (x : Exploration) (p : Schemas) : Type 0 where
  pub state : IsSchemaOf g x.state p.state
  pub init : IsSchemaOf g x.initial p.init
  pub operations : AllZip (IsSchemaOf g) x.operations p.operations
  pub sought : AllZip (IsSchemaOf g) (option_to_list x.sought) (option_to_list p.sought)

-- the source is well typed, and these are its schemas of the names
pub record HasSchemas (x : Exploration) (source : List ℕ) (g : List Defined) (p : Schemas) : Type 0 where
  pub checks : Checks source g []
  pub named : AreSchemasOf g x p

-- they have the components of a machine, and the numbers and the sizes fit
pub record IsSettled (x : Exploration) (source : List ℕ) (g : List Defined) (p : Schemas) : Type 0 where
  pub has_schemas : HasSchemas x source g p
  pub shape : HasShape p
  pub small : AreSmall (numbers_of x.setting)
  pub complete : AreComplete (given_sets g) (stated g x.setting)

-- this is the environment at the stated sizes with the stated end of the numbers, and each of the schemas is finite
pub record IsBounded (x : Exploration) (source : List ℕ) (g : List Defined) (p : Schemas) (e : Environment) : Type 0 where
  pub settled : IsSettled x source g p
  pub environment : IsEnvironment g (stated g x.setting) (numbers_of x.setting) e
  pub finite : AllByRecursion (λ n. IsFinite e.numbers g n.schema) (all_of p)

-- and none has a declared set that is out
pub record IsSearchable (x : Exploration) (source : List ℕ) (g : List Defined) (p : Schemas) (e : Environment) : Type 0 where
  pub bounded : IsBounded x source g p e
  pub none_out : AllByRecursion (λ n. IsNoneOut e n.schema.comps) (all_of p)

-- how many states are written at most, or met where one is sought
abbrev pub states_limit : Exploration → ℕ
states_limit x = unwrap_or x.limit STATES_MAX

-- lines or objects, or a graph
abbrev pub form_in : Format → Form
form_in Lines = form.Lines
form_in Objects = form.Objects

abbrev pub form_of : Exploration → Form
form_of x = cond x.graph form.Graph (form_in x.format)

-- ---- refusals

-- the first of the names that is that of no schema
abbrev pub LacksSchema : Exploration → List Defined → (told : List Message) → Status → Type 0
LacksSchema x g told status = FirstFails (IsOfSchema g) (TellsNoSchema x.details g told status) (names_of x)

-- the first of the schemas that lacks a component
abbrev pub HasLacking : Schemas → (told : List Message) → Status → Type 0
HasLacking p told status = (name component : List ℕ) × LacksFirst p name component × (told ≡ messages.no_component name component ∷ []) × (status ≡ BadRequest)

-- the first of the schemas that is not finite, where this is the greatest number, if there is one
abbrev pub HasInfinite : Exploration → (source : List ℕ) → (numbers : Option ℕ) → List Defined → Schemas → (told : List Message) → Status → Type 0
HasInfinite x source numbers g p told status = FirstFails (λ n. IsFinite numbers g n.schema) (λ n. TellsInfinite numbers g n.schema x.details source told status) (all_of p)

-- the first of the schemas with a declared set that is out
abbrev pub HasOut : Environment → Schemas → (told : List Message) → Status → Type 0
HasOut e p told status = FirstFails (λ n. IsNoneOut e n.schema.comps) (λ n. TellsOut e n.schema.comps told status) (all_of p)

-- An exploration is refused for a source that is read, by the first case that applies. These messages say so.
pub data RefusesExploration (x : Exploration) (source : List ℕ) (told : List Message) (status : Status) : Type 0 where
  ill_typed : TellsFaults x.details source told status → RefusesExploration x source told status
  no_schema : (g : List Defined) → Checks source g [] → LacksSchema x g told status → RefusesExploration x source told status
  no_component : (g : List Defined) (p : Schemas) → HasSchemas x source g p → HasLacking p told status → RefusesExploration x source told status
  large_numbers : (g : List Defined) (p : Schemas) → HasSchemas x source g p → HasShape p → TellsNumbers (numbers_of x.setting) told status → RefusesExploration x source told status
  bad_sizes : (g : List Defined) (p : Schemas) → HasSchemas x source g p → HasShape p → AreSmall (numbers_of x.setting)
      → TellsMisfit x.details g (stated g x.setting) told status → RefusesExploration x source told status
  not_finite : (g : List Defined) (p : Schemas) → IsSettled x source g p → HasInfinite x source (numbers_of x.setting) g p told status → RefusesExploration x source told status
  declared_out : (g : List Defined) (p : Schemas) (e : Environment) → IsBounded x source g p e → HasOut e p told status → RefusesExploration x source told status

-- ---- the answer

-- where the search leaves the bounds the status is another
abbrev pub ending_status : Ending → Status
ending_status ended = Done
ending_status paused = Done
ending_status (broken at) = PastBounds

-- the text of what the machine of these schemas can reach
pub record ExploresMachine (x : Exploration) (g : List Defined) (p : Schemas) (e : Environment) (text : List ℕ) (status : Status) : Type 0 where
  pub machine : System
  pub is_of : IsMachineOf e (spellings g) (form_of x) p machine
  pub ending : Ending
  pub written : graph.IsExplored (explored_in machine) (words machine) (states_limit x) ending text
  pub ends : status ≡ ending_status ending

-- so it is where it can't be decided whether a state is one that is sought
abbrev pub result_status : seeking.Result → Status
result_status seeking.found = Done
result_status seeking.missing = Done
result_status seeking.open_ended = Done
result_status (seeking.untold at) = PastBounds

-- the text of a search for a state that satisfies the schema which is sought: a shortest way to one, or that there is none
pub record Seeks (x : Exploration) (g : List Defined) (p : Schemas) (e : Environment) (text : List ℕ) (status : Status) : Type 0 where
  pub machine : System
  pub is_of : IsMachineOf e (spellings g) (form_of x) p machine
  pub result : seeking.Result
  pub written : seeking.IsSearched (explored_in machine) (sought_in machine) (words machine) (verdict machine) (states_limit x) result text
  pub ends : status ≡ result_status result

-- which of both, where this schema is sought, if one is
abbrev pub TellsMachine : (sought : Option (List ℕ)) → Exploration → List Defined → Schemas → Environment → (text : List ℕ) → Status → Type 0
TellsMachine None x g p e text status = ExploresMachine x g p e text status
TellsMachine (Some name) x g p e text status = Seeks x g p e text status

-- The answer of `reach` for a source that is read.
pub data ExplorationAnswer (x : Exploration) (file source text : List ℕ) (status : Status) : Type 0 where
  refused : AreMessages x.format file (RefusesExploration x source) text status → ExplorationAnswer x file source text status
  explored : (g : List Defined) (p : Schemas) (e : Environment) → IsSearchable x source g p e → TellsMachine x.sought x g p e text status → ExplorationAnswer x file source text status

-- the first lines that it writes, where no state is sought: some turns, and the beginning of the next one
pub data ExplorationBegins (x : Exploration) (source text : List ℕ) : Type 0 where
  turns : (g : List Defined) (p : Schemas) (e : Environment) (m : System) → x.sought ≡ None → IsSearchable x source g p e → IsMachineOf e (spellings g) (form_of x) p m
      → graph.IsPartlyExplored (explored_in m) (words m) (states_limit x) text → ExplorationBegins x source text
