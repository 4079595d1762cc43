-- Where a search for a node stands, and how it goes on. No public clause rests on this file.
use Rattle.std.specs.Prelude.{◌≡◌, ◌⊎◌, ℕ, ◌+◌, ◌-◌, ◌<◌, ◌≤◌, true, false, List, [], ◌∷◌, ◌++◌, length, Option, None, Some, slice_get}
use Rattle.std.specs.List.{list_any}
use Rattle.zf_graph.specs.{Explored, found, IsNumbered, IsSearched, Met, missing, nodes_of, open_ended, Result, SeeksBefore, SeeksIn, Sought, Turn, untold, way_text, Words}
use Rattle.zf_reach.specs.declared.finding.Finding.{Finding}
use Rattle.zf_reach.specs.declared.finding.Finding.TheVariants as findings
use Rattle.zf_reach.specs.declared.trail.Arrival.{Arrival}
use Rattle.zf_reach.specs.Runs.{cut, edge}

-- ---- the trail

-- the node at a place was met in the turn of an earlier one, along an edge
pub record IsArrival {N L : Type 0} (met : List (Met N L)) (trail : List (Arrival L)) (place : ℕ) (x : Met N L) : Type 0 where
  pub arrival : Arrival L
  pub from : Met N L
  pub kept : slice_get trail place ≡ Some arrival
  pub earlier : arrival.from ≤ place
  pub at : slice_get met arrival.from ≡ Some from
  pub way : x.way ≡ from.way ++ edge arrival.label x.node ∷ []

-- each node that is met, but for the first, has its arrival
pub record IsTrail {N L : Type 0} (met : List (Met N L)) (trail : List (Arrival L)) : Type 0 where
  pub each : length met ≡ length trail + 1
  pub first : (x : Met N L) → slice_get met 0 ≡ Some x → x.way ≡ []
  pub arrivals : (place : ℕ) (x : Met N L) → slice_get met (place + 1) ≡ Some x → IsArrival met trail place x

abbrev pub IsEarlier : {L : Type 0} → List (Arrival L) → Type 0
IsEarlier {L} trail = (place : ℕ) (arrival : Arrival L) → slice_get trail place ≡ Some arrival → arrival.from ≤ place

-- These numbers, from the last on, lead from one node to another: in the turn of each the next one was met.
pub data IsChain {L : Type 0} (trail : List (Arrival L)) (target : ℕ) : List ℕ → ℕ → Type 0 where
  over : (numbers : List ℕ) (at : ℕ) → numbers ≡ [] → at ≡ target → IsChain trail target numbers at
  by : (numbers : List ℕ) (at : ℕ) (more : List ℕ) (number : ℕ) (arrival : Arrival L) → numbers ≡ more ++ number ∷ [] → 0 < number → slice_get trail (number - 1) ≡ Some arrival → arrival.from ≡ at → IsChain trail target more number
      → IsChain trail target numbers at

-- the lines of a node and of the edge along which it was met
abbrev pub SaysStep : {N L : Type 0} → Words N L → List N → List (Arrival L) → (number : ℕ) → (old new : List ℕ) → Type 0
SaysStep {N} {L} w nodes trail number old new =
    (to : N) (arrival : Arrival L) → slice_get nodes number ≡ Some to → slice_get trail (number - 1) ≡ Some arrival → new ≡ (old ++ w.node arrival.from number to) ++ w.edge arrival.from arrival.label number

-- what shows the ways to the nodes that are met
pub record IsShown {N L : Type 0} (p : Explored N L) (met : List (Met N L)) (nodes : List N) (trail : List (Arrival L)) : Type 0 where
  pub of_nodes : nodes ≡ nodes_of met
  pub kept : IsTrail met trail
  pub numbered : IsNumbered p met

-- the lines of the way to the node at a place
abbrev pub SaysWay : {N L : Type 0} → Explored N L → Words N L → List N → List (Arrival L) → (place : ℕ) → (old new : List ℕ) → Type 0
SaysWay {N} {L} p w nodes trail place old new = (met : List (Met N L)) (item : Met N L) → IsShown p met nodes trail → slice_get met place ≡ Some item → new ≡ old ++ way_text w p.eq nodes p.root item.way

-- ---- the search

module _ {N L : Type 0} (p : Explored N L) (s : Sought N) (limit : ℕ) where
  -- before the turn of the node at a place
  pub record AtSearch (nodes : List N) (trail : List (Arrival L)) (place edges : ℕ) : Type 0 where
    pub inner : ℕ
    pub met : List (Met N L)
    pub seeks : SeeksBefore p s limit met place inner
    pub of_nodes : nodes ≡ nodes_of met
    pub kept : IsTrail met trail
    pub reached : place ≤ length nodes
    pub count : edges ≡ cut inner

  -- in the turn of a node that stands in this relation to what is passed
  pub record InSearch (Stands : N → Turn N L → Type 0) (nodes : List N) (trail : List (Arrival L)) (place edges : ℕ) : Type 0 where
    pub node : N
    pub now : Turn N L
    pub inner : ℕ
    pub met : List (Met N L)
    pub stands : Stands node now
    pub begins : p.BeginsTurn node now
    pub seeks : SeeksIn p s limit node now met place inner
    pub of_nodes : nodes ≡ nodes_of met
    pub kept : IsTrail met trail
    pub count : edges ≡ cut inner

  -- whether the search ends at a new node, where so many are met before
  abbrev pub SeesNew : Option Finding → (stop : List ℕ) → (before : ℕ) → N → Type 0
  SeesNew None stop before to = s.IsOther to × (before ≡ limit → ⊥)
  SeesNew (Some findings.Found) stop before to = s.IsSought to
  SeesNew (Some findings.Missing) stop before to = ⊥
  SeesNew (Some findings.OpenEnded) stop before to = s.IsOther to × (before ≡ limit)
  SeesNew (Some findings.Untold) stop before to = s.IsUntold to stop

  -- what an edge brings: nothing, or a new node
  abbrev pub Brings : (stop : List ℕ) → Option Finding → (place : ℕ) → (old new : List N) → (trail trail_new : List (Arrival L)) → L → (to : N) → Type 0
  Brings stop left place old new trail trail_new label to =
      ((list_any (p.eq to) old ≡ true) × (new ≡ old) × (trail_new ≡ trail) × (left ≡ None))
      ⊎ ((list_any (p.eq to) old ≡ false) × (new ≡ old ++ to ∷ []) × (trail_new ≡ trail ++ record { from = place; label = label } ∷ []) × SeesNew left stop (length old) to)

  module _ (w : Words N L) (last : Result → (nodes edges : ℕ) → List ℕ) where
    -- a node is found
    pub record IsFoundBy (nodes : List N) (trail : List (Arrival L)) (edges : ℕ) : Type 0 where
      pub inner : ℕ
      pub met : List (Met N L)
      pub item : Met N L
      pub shown : IsShown p met nodes trail
      pub last_met : slice_get met (length trail) ≡ Some item
      pub ends : IsSearched p s w last limit found ((w.head ++ way_text w p.eq nodes p.root item.way) ++ last found (length nodes - 1) inner)
      pub count : edges ≡ cut inner

    -- the search ends so without one
    pub record EndsWithout (result : Result) (nodes : List N) (edges : ℕ) : Type 0 where
      pub inner : ℕ
      pub ends : IsSearched p s w last limit result (w.head ++ last result (length nodes - 1) inner)
      pub count : edges ≡ cut inner

    abbrev pub Concludes : Finding → (stop : List ℕ) → List N → List (Arrival L) → (edges : ℕ) → Type 0
    Concludes findings.Found stop nodes trail edges = IsFoundBy nodes trail edges
    Concludes findings.Missing stop nodes trail edges = EndsWithout missing nodes edges
    Concludes findings.OpenEnded stop nodes trail edges = EndsWithout open_ended nodes edges
    Concludes findings.Untold stop nodes trail edges = EndsWithout (untold stop) nodes edges

    -- how a turn goes on: to what comes next, or the search ends
    abbrev pub LeavesSearch : Option Finding → (Next : Type 0) → (stop : List ℕ) → List N → List (Arrival L) → (edges : ℕ) → Type 0
    LeavesSearch None Next stop nodes trail edges = Next
    LeavesSearch (Some finding) Next stop nodes trail edges = Concludes finding stop nodes trail edges
