-- What `reach` answers: the text of what the machine of its schemas can reach, or of a search for a state.
use Rattle.std.specs.Prelude.{◌≡◌, ◌↔◌, ◌-◌, ℕ, List, ◌++◌, Contains, length, Some, slice_get}
use Rattle.law_answered.specs.Prelude.{Exploration, Reach, Edge, ended, ExploresAll, Graph, inner_edges, IsExplored, IsMet, IsReachable, IsShortest, Met, no_turn, text_up_to, Turn, Status, IsMachineOf, Schemas, Environment, Label, Node, explored_in, steps, System, words, Defined, Answer, IsSearchable, TellsMachine}
use Rattle.zf_steps.specs.contracts.node.NodePartialEq.TheImpl as nodes
use Rattle.zf_steps.specs.declared.form.Form.{Form}
use Rattle.zf_print.specs.declared.spelling.Spelling.{Spelling}

-- Where nothing stands in the way of an exploration, every answer is the text of what the machine of its schemas can reach, or, where a state is sought, that of the search.
abbrev pub WhatIsReachedIsTold : Type 0
WhatIsReachedIsTold =
    (x : Exploration) (file source : List ℕ) (g : List Defined) (p : Schemas) (e : Environment) (text : List ℕ) (status : Status)
    → IsSearchable x source g p e → Answer (Reach x) file source text status → TellsMachine x.sought x g p e text status

-- Schemas make one machine in an environment.
abbrev pub SchemasMakeOneMachine : Type 0
SchemasMakeOneMachine = (e : Environment) (elements : List Spelling) (form : Form) (p : Schemas) (m n : System) → IsMachineOf e elements form p m → IsMachineOf e elements form p n → m ≡ n

-- ---- what is reachable

-- its states and steps
abbrev pub graph_in : System → Graph Node Label
graph_in m = steps m nodes.ghosts.eq

-- The text is that of a turn of each node that is met, with `end` after it:
pub record MeetsAll (m : System) (text : List ℕ) : Type 0 where
  pub turns : List (Turn Node Label)
  pub met : List (Met Node Label)
  pub explores : ExploresAll (explored_in m) turns met
  pub written : text ≡ text_up_to (explored_in m) (words m) turns met no_turn ++ (words m).last ended (length met - 1) (inner_edges turns no_turn)
  -- those that are met are exactly the reachable ones,
  pub reachable : (b : Node) → IsMet met b ↔ IsReachable (graph_in m) b
  -- each is met once, and along a way than which none is shorter,
  pub once : (i j : ℕ) (x y : Met Node Label) → slice_get met i ≡ Some x → slice_get met j ≡ Some y → x.node ≡ y.node → i ≡ j
  pub shortly : (i : ℕ) (x : Met Node Label) → slice_get met i ≡ Some x → IsShortest (graph_in m) (λ b. b ≡ x.node) x.way
  -- and its turn has exactly its steps.
  pub steps : (i : ℕ) (x : Met Node Label) (t : Turn Node Label) → slice_get met i ≡ Some x → slice_get turns i ≡ Some t → (e : Edge Node Label) → Contains t.edges e ↔ (graph_in m).IsEdge x.node e

-- So where an exploration ends with `end`, the states that have a line are exactly the reachable ones.
abbrev pub ReachableAreMet : Type 0
ReachableAreMet = (m : System) (limit : ℕ) (text : List ℕ) → IsExplored (explored_in m) (words m) limit ended text → MeetsAll m text
