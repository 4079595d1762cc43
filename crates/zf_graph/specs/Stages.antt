-- Where an exploration that is written stands, and a search. No public clause rests on this file.
use Rattle.std.specs.Prelude.{◌≡◌, ℕ, ◌≤◌, List, [], ◌∷◌, ◌++◌, length, Some, slice_get}
use Rattle.zf_graph.specs.Explorations.{arrive_all, at_first, Explored, Explores, ExploresUpTo, Met, nodes_of, number_in, Turn}
use Rattle.zf_graph.specs.Graphs.{end_of}
use Rattle.zf_graph.specs.Seeking.{AreOthers, Sought}
use Rattle.zf_graph.specs.Texts.{inner_edges, no_turn, text_up_to, turns_text, Words}

-- before the turn of the node at a place: these nodes are met, so many edges other than of the root are passed, and this is the text so far
pub record StandsBefore {N L : Type 0} (p : Explored N L) (w : Words N L) (limit : ℕ) (nodes : List N) (place inner : ℕ) (text : List ℕ) : Type 0 where
  pub turns : List (Turn N L)
  pub met : List (Met N L)
  pub explores : Explores p (at_first p.root) 0 turns met
  pub placed : length turns ≡ place
  pub of_nodes : nodes ≡ nodes_of met
  pub within : length met ≤ limit
  pub counted : inner ≡ inner_edges turns no_turn
  pub written : text ≡ w.head ++ turns_text w p.eq 0 (p.root ∷ []) turns

-- in the turn of this node, which begins so
pub record StandsIn {N L : Type 0} (p : Explored N L) (w : Words N L) (limit : ℕ) (node : N) (now : Turn N L) (nodes : List N) (place inner : ℕ) (text : List ℕ) : Type 0 where
  pub turns : List (Turn N L)
  pub met : List (Met N L)
  pub item : Met N L
  pub up_to : ExploresUpTo p turns met item
  pub of_node : item.node ≡ node
  pub placed : length turns ≡ place
  pub of_nodes : nodes ≡ nodes_of (arrive_all p.eq item met now.edges)
  pub within : length (arrive_all p.eq item met now.edges) ≤ limit
  pub counted : inner ≡ inner_edges turns now
  pub written : text ≡ text_up_to p w turns met now

-- before the turn of the node at a place of a search: these are met, none of them ends it, and so many edges other than of the root are passed
pub record SeeksBefore {N L : Type 0} (p : Explored N L) (s : Sought N) (limit : ℕ) (met : List (Met N L)) (place inner : ℕ) : Type 0 where
  pub turns : List (Turn N L)
  pub explores : Explores p (at_first p.root) 0 turns met
  pub placed : length turns ≡ place
  pub few : length met ≤ limit
  pub others : AreOthers p s met
  pub counted : inner ≡ inner_edges turns no_turn

-- in the turn of this node, which begins so
pub record SeeksIn {N L : Type 0} (p : Explored N L) (s : Sought N) (limit : ℕ) (node : N) (now : Turn N L) (met : List (Met N L)) (place inner : ℕ) : Type 0 where
  pub turns : List (Turn N L)
  pub before : List (Met N L)
  pub item : Met N L
  pub up_to : ExploresUpTo p turns before item
  pub of_node : item.node ≡ node
  pub placed : length turns ≡ place
  pub of_met : met ≡ arrive_all p.eq item before now.edges
  pub few : length met ≤ limit
  pub others : AreOthers p s met
  pub counted : inner ≡ inner_edges turns now

-- each node has its place as its number, and its way leads to it
abbrev pub IsNumbered : {N L : Type 0} → Explored N L → List (Met N L) → Type 0
IsNumbered {N} {L} p met = (i : ℕ) (x : Met N L) → slice_get met i ≡ Some x → (number_in p.eq (nodes_of met) x.node ≡ i) × (end_of p.root x.way ≡ x.node)
