-- What `reach` answers where a state is sought: a shortest way to a state that satisfies a schema, or that no reachable one does.
use Rattle.std.specs.Prelude.{◌≡◌, ℕ, List, ◌++◌, Some}
use Rattle.law_answered.specs.Prelude.{Exploration, Reach, Edge, found, IsReachable, IsShortest, missing, open_ended, Result, untold, way_text, Status, Named, Schemas, state_of, Environment, Label, Node, explored_in, Satisfies, System, verdict, words, Comp, Defined, Schema, Answer, IsSearchable, Seeks}
use Rattle.zf_steps.specs.declared.node.Node.TheVariants.{Root, State}
use Rattle.law_answered.specs.Reached.{graph_in}

-- ---- states that satisfy a schema

-- A state does where some binding of the schema agrees with it in the components that both have. What is before the initial states does not.
abbrev pub SatisfiesAt : Environment → Schema → (state : List Comp) → Node → Type 0
SatisfiesAt e a state Root = ⊥
SatisfiesAt e a state (State values) = Satisfies e a state values

-- ---- what is found

-- the text is that of a shortest way to a state that has the property
pub record ShowsWay (m : System) (P : Node → Type 0) (text : List ℕ) : Type 0 where
  pub way : List (Edge Node Label)
  pub nodes : List Node
  pub states : ℕ
  pub steps : ℕ
  pub shortest : IsShortest (graph_in m) P way
  pub written : text ≡ ((words m).head ++ way_text (words m) (explored_in m).eq nodes Root way) ++ verdict m found states steps

-- What the end of a search says of the states that have the property: `found` that this is a shortest way to one, `not found` that none can be reached.
abbrev pub Says : (m : System) → (P : Node → Type 0) → Result → (text : List ℕ) → Type 0
Says m P found text = ShowsWay m P text
Says m P missing text = (b : Node) → IsReachable (graph_in m) b → P b → ⊥
Says m P open_ended text = Unit {0}
Says m P (untold at) text = Unit {0}

-- Where nothing stands in the way of a search, every answer says this of the states that satisfy the schema.
abbrev pub WhatIsSoughtIsTold : Type 0
WhatIsSoughtIsTold =
    (x : Exploration) (file source : List ℕ) (g : List Defined) (p : Schemas) (e : Environment) (sought : Named) (text : List ℕ) (status : Status)
    → IsSearchable x source g p e → p.sought ≡ Some sought → Answer (Reach x) file source text status
    → (told : Seeks x g p e text status) × Says told.machine (SatisfiesAt e sought.schema (state_of p)) told.result text
