-- The text of an exploration: what is written of each turn, in the words of a writer.
use Rattle.std.specs.Prelude.{◌≡◌, ◌⊎◌, ℕ, ◌+◌, ◌-◌, ◌≤◌, Bool, false, cond, List, [], ◌∷◌, ◌++◌, length}
use Rattle.std.specs.List.{list_any}
use Rattle.zf_graph.specs.Explorations.{arrive_all, Explored, ExploresAll, ExploresUpTo, is_met, Met, nodes_of, number_in, Turn, with_ends, with_node}
use Rattle.zf_graph.specs.Edges.{Edge}

-- How an exploration ends: each node that is met has had its turn, or as many are met as are asked for, or the search for an edge broke off at what this text says.
pub data Ending : Type 0 where
  ended : Ending
  paused : Ending
  broken : (at : List ℕ) → Ending

-- What a writer says before all else, of a node that is met in the turn of another, both by their numbers, of an edge from one to the other by its label, of a node that is a stray, of one without edges, and at the end, with how many
-- nodes are met and how many edges have been passed.
pub record Words (N L : Type 0) : Type 0 where
  pub head : List ℕ
  pub node : (from number : ℕ) → N → List ℕ
  pub edge : (from : ℕ) → L → (number : ℕ) → List ℕ
  pub stray : (number : ℕ) → List ℕ
  pub stuck : (number : ℕ) → List ℕ
  pub last : Ending → (nodes edges : ℕ) → List ℕ

module _ {N L : Type 0} (w : Words N L) (eq : N → N → Bool) where
  -- an edge of the node of this number, where these nodes are met: the node that it leads to where that is new, and the edge
  abbrev pub edge_text : (from : ℕ) → List N → Edge N L → List ℕ
  edge_text from nodes e = cond (list_any (eq e.to) nodes) [] (w.node from (length nodes) e.to) ++ w.edge from e.label (number_in eq nodes e.to)

  abbrev pub edges_text : (from : ℕ) → List N → List (Edge N L) → List ℕ
  edges_text from nodes [] = []
  edges_text from nodes (e ∷ es) = edge_text from nodes e ++ edges_text from (with_node eq nodes e.to) es

  -- the beginning of a turn: whether the node is a stray, and the first of its edges
  abbrev pub begun_text : (from : ℕ) → List N → Turn N L → List ℕ
  begun_text from nodes t = cond t.stray (w.stray from) [] ++ edges_text from nodes t.edges

  -- that there are no edges
  abbrev pub stuck_text : (from : ℕ) → List (Edge N L) → List ℕ
  stuck_text from [] = w.stuck from
  stuck_text from (e ∷ es) = []

  -- the turns from the node of this number on
  abbrev pub turns_text : (from : ℕ) → List N → List (Turn N L) → List ℕ
  turns_text from nodes [] = []
  turns_text from nodes (t ∷ ts) = (begun_text from nodes t ++ stuck_text from t.edges) ++ turns_text (from + 1) (with_ends eq nodes t.edges) ts

-- a turn with one more edge
abbrev pub with_edge : {N L : Type 0} → Turn N L → Edge N L → Turn N L
with_edge t e = record { stray = t.stray; edges = t.edges ++ e ∷ [] }

-- how many edges there are in turns, and how many from nodes other than the root, where the next turn begins so
abbrev pub edges_in : {N L : Type 0} → List (Turn N L) → ℕ
edges_in [] = 0
edges_in (t ∷ ts) = length t.edges + edges_in ts

abbrev pub inner_edges : {N L : Type 0} → List (Turn N L) → Turn N L → ℕ
inner_edges [] now = 0
inner_edges (t ∷ ts) now = edges_in ts + length now.edges

-- nothing of a turn
abbrev pub no_turn : {N L : Type 0} → Turn N L
no_turn = record { stray = false; edges = [] }

module _ {N L : Type 0} (p : Explored N L) (w : Words N L) where
  -- the text of these turns, in which so many nodes are met, and of the beginning of the next one
  abbrev pub text_up_to : List (Turn N L) → List (Met N L) → Turn N L → List ℕ
  text_up_to turns met now = (w.head ++ turns_text w p.eq 0 (p.root ∷ []) turns) ++ begun_text w p.eq (length turns) (nodes_of met) now

-- The text of an exploration, with so many nodes beside the root as a limit.
pub data IsExplored {N L : Type 0} (p : Explored N L) (w : Words N L) (limit : ℕ) (ending : Ending) (text : List ℕ) : Type 0 where
  ends : (turns : List (Turn N L)) (met : List (Met N L)) → ExploresAll p turns met → length met ≤ limit
      → ending ≡ ended → text ≡ text_up_to p w turns met no_turn ++ w.last ended (length met - 1) (inner_edges turns no_turn) → IsExplored p w limit ending text
  pauses : (turns : List (Turn N L)) (met : List (Met N L)) (a : Met N L) (now : Turn N L) (e : Edge N L) → ExploresUpTo p turns met a → p.BeginsTurn a.node (with_edge now e)
      → length (arrive_all p.eq a met now.edges) ≡ limit → is_met p.eq (arrive_all p.eq a met now.edges) e.to ≡ false
      → ending ≡ paused → text ≡ text_up_to p w turns met (with_edge now e) ++ w.last paused limit (inner_edges turns (with_edge now e)) → IsExplored p w limit ending text
  breaks : (turns : List (Turn N L)) (met : List (Met N L)) (a : Met N L) (now : Turn N L) (at : List ℕ) → ExploresUpTo p turns met a → p.BreaksTurn a.node now at
      → length (arrive_all p.eq a met now.edges) ≤ limit
      → ending ≡ broken at → text ≡ text_up_to p w turns met now ++ w.last (broken at) (length (arrive_all p.eq a met now.edges) - 1) (inner_edges turns now) → IsExplored p w limit ending text

-- The first text of it: some turns, and the beginning of the next one, which brings no more nodes than the limit has before its last edge.
pub record IsPartlyExplored {N L : Type 0} (p : Explored N L) (w : Words N L) (limit : ℕ) (text : List ℕ) : Type 0 where
  pub turns : List (Turn N L)
  pub met : List (Met N L)
  pub item : Met N L
  pub now : Turn N L
  pub up_to : ExploresUpTo p turns met item
  pub begins : p.BeginsTurn item.node now ⊎ (now ≡ no_turn)
  pub few : length met ≤ limit
  pub within : (es : List (Edge N L)) (e : Edge N L) → now.edges ≡ es ++ e ∷ [] → length (arrive_all p.eq item met es) ≤ limit
  pub written : text ≡ text_up_to p w turns met now
