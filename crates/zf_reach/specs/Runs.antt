-- Where a run stands, and how it goes on. Of this file public clauses cite `StopsEarly` and `StopsSearch` alone.
use Rattle.std.specs.Prelude.{◌≡◌, ℕ, ◌+◌, ◌-◌, ◌^◌, ◌≤◌, Bool, true, false, cond, eqb, min, List, [], ◌∷◌, ◌++◌, length, Option, None, Some, slice_get}
use Rattle.std.specs.List.{list_any}
use Rattle.std.specs.Io.KnownBytes.{Appends}
use Rattle.zf_graph.specs.{Edge, Ending, Explored, IsExplored, IsPart, IsSearchedPart, Result, Sought, StandsBefore, StandsIn, Turn, with_node, Words}
use Rattle.zf_lines.specs.{AppendsFront}
use Rattle.zf_reach.specs.declared.ending.Ending as code
use Rattle.zf_reach.specs.Machines.{ending_of}

abbrev pub edge : {N L : Type 0} → L → N → Edge N L
edge label to = record { label = label; to = to }

-- a number as it is counted
abbrev pub cut : ℕ → ℕ
cut n = min n (2 ^ 64 - 1)

-- the count after one more edge of the node of this number
abbrev pub counted : (place edges : ℕ) → ℕ
counted place edges = cond (eqb place 0) edges (min (edges + 1) (2 ^ 64 - 1))

-- whether the edge leads to a new node, and as many nodes are met before as are asked for
abbrev pub IsFull : {N : Type 0} → (full : Bool) → (N → N → Bool) → List N → (to : N) → (limit : ℕ) → Type 0
IsFull true eq nodes to limit = (list_any (eq to) nodes ≡ false) × (length nodes ≡ limit)
IsFull false eq nodes to limit = length nodes ≤ limit → length (with_node eq nodes to) ≤ limit

-- what is met stays met, at its place
abbrev pub KeepsNodes : {N : Type 0} → (old new : List N) → Type 0
KeepsNodes {N} old new = (place : ℕ) (node : N) → slice_get old place ≡ Some node → slice_get new place ≡ Some node

-- whether no edge is passed
abbrev pub IsStuck : {N L : Type 0} → Bool → List (Edge N L) → Type 0
IsStuck true edges = edges ≡ []
IsStuck {N} {L} false edges = (e : Edge N L) × (more : List (Edge N L)) × (edges ≡ e ∷ more)

module _ {N L : Type 0} (p : Explored N L) (w : Words N L) (limit : ℕ) where
  -- before the turn of the node at a place, with the text so far written
  pub record AtTurn (origin contents : Option (List ℕ)) (nodes : List N) (place edges : ℕ) : Type 0 where
    pub inner : ℕ
    pub text : List ℕ
    pub stands : StandsBefore p w limit nodes place inner text
    pub reached : place ≤ length nodes
    pub count : edges ≡ cut inner
    pub written : Appends origin contents text

  -- in the turn of a node
  pub record InTurn (origin contents : Option (List ℕ)) (node : N) (now : Turn N L) (nodes : List N) (place edges : ℕ) : Type 0 where
    pub inner : ℕ
    pub text : List ℕ
    pub stands : StandsIn p w limit node now nodes place inner text
    pub count : edges ≡ cut inner
    pub written : Appends origin contents text

  -- in the turn of a node that stands in this relation to what is passed: between the parts of its edges, or in one
  pub record InParts (Stands : N → Turn N L → Type 0) (origin contents : Option (List ℕ)) (nodes : List N) (place edges : ℕ) (stuck : Bool) : Type 0 where
    pub node : N
    pub now : Turn N L
    pub stands : Stands node now
    pub begins : p.BeginsTurn node now
    pub is_stuck : IsStuck stuck now.edges
    pub in_turn : InTurn origin contents node now nodes place edges

  -- what is written ends so, but for what is said last
  pub record Closes (ending : Ending) (origin contents : Option (List ℕ)) (nodes : List N) (edges : ℕ) : Type 0 where
    pub inner : ℕ
    pub text : List ℕ
    pub ends : IsExplored p w limit ending (text ++ w.last ending (length nodes - 1) inner)
    pub count : edges ≡ cut inner
    pub written : Appends origin contents text

  -- the front of what can be written is written
  abbrev pub StopsEarly : (origin contents : Option (List ℕ)) → Type 0
  StopsEarly origin contents = (text : List ℕ) × IsPart p w limit text × AppendsFront origin contents text

  -- how a turn goes on: to what comes next, or the whole ends
  abbrev pub LeavesTurn : Option code.Ending → (Next : Type 0) → (stop : List ℕ) → (origin contents : Option (List ℕ)) → (nodes : List N) → (edges : ℕ) → Type 0
  LeavesTurn None Next stop origin contents nodes edges = Next
  LeavesTurn (Some ending) Next stop origin contents nodes edges = Closes (ending_of ending stop) origin contents nodes edges

-- the front of what can be written of a search is written
abbrev pub StopsSearch : {N L : Type 0} → Explored N L → Sought N → Words N L → (last : Result → (nodes edges : ℕ) → List ℕ) → (limit : ℕ) → (origin contents : Option (List ℕ)) → Type 0
StopsSearch p s w last limit origin contents = (text : List ℕ) × IsSearchedPart p s w last limit text × AppendsFront origin contents text
