-- A breadth-first search for a node: what is written is a shortest way to the first one that is met, or how the search ends without one.
use Rattle.std.specs.Prelude.{◌≡◌, ◌⊎◌, ℕ, ◌-◌, ◌≤◌, Bool, false, List, [], ◌∷◌, ◌++◌, length}
use Rattle.zf_graph.specs.Explorations.{arrive_all, beyond, Explored, ExploresAll, ExploresUpTo, is_met, IsMet, Met, nodes_of, number_in, Turn}
use Rattle.zf_graph.specs.Edges.{Edge}
use Rattle.zf_graph.specs.Texts.{inner_edges, no_turn, with_edge, Words}

-- How a search ends: at a node that is sought, or no node that is met is one, or as many nodes are met as are asked for, or it can't be decided, at what this text says.
pub data Result : Type 0 where
  found : Result
  missing : Result
  open_ended : Result
  untold : (at : List ℕ) → Result

-- which nodes are sought, and of which it can't be decided, with a text that says why
pub record Sought (N : Type 0) : Type 1 where
  pub IsSought : N → Type 0
  pub IsOther : N → Type 0
  pub IsUntold : N → List ℕ → Type 0

-- the lines of a way, with the numbers of its nodes: each node in the turn of the one before, and the edge
abbrev pub way_text : {N L : Type 0} → Words N L → (N → N → Bool) → (nodes : List N) → N → List (Edge N L) → List ℕ
way_text w eq nodes a [] = []
way_text w eq nodes a (e ∷ es) = (w.node (number_in eq nodes a) (number_in eq nodes e.to) e.to ++ w.edge (number_in eq nodes a) e.label (number_in eq nodes e.to)) ++ way_text w eq nodes e.to es

-- each node that is met, but for the root, is another than those that are sought
abbrev pub AreOthers : {N L : Type 0} → Explored N L → Sought N → List (Met N L) → Type 0
AreOthers {N} {L} p s met = (b : N) → IsMet met b → (b ≡ p.root) ⊎ s.IsOther b

-- What is written of a search, with so many nodes beside the root as a limit, and these last words. Nothing is written before it ends.
pub data IsSearched {N L : Type 0} (p : Explored N L) (s : Sought N) (w : Words N L) (last : Result → (nodes edges : ℕ) → List ℕ) (limit : ℕ) (result : Result) (text : List ℕ) : Type 0 where
  finds : (turns : List (Turn N L)) (met : List (Met N L)) (a : Met N L) (now : Turn N L) (e : Edge N L) → ExploresUpTo p turns met a → p.BeginsTurn a.node (with_edge now e)
      → length (arrive_all p.eq a met now.edges) ≤ limit → is_met p.eq (arrive_all p.eq a met now.edges) e.to ≡ false → AreOthers p s (arrive_all p.eq a met now.edges) → s.IsSought e.to
      → result ≡ found
      → text ≡ (w.head ++ way_text w p.eq (nodes_of (arrive_all p.eq a met (now.edges ++ e ∷ []))) p.root (beyond a e).way) ++ last found (length (arrive_all p.eq a met now.edges)) (inner_edges turns (with_edge now e))
      → IsSearched p s w last limit result text
  misses : (turns : List (Turn N L)) (met : List (Met N L)) → ExploresAll p turns met → length met ≤ limit → AreOthers p s met
      → result ≡ missing → text ≡ w.head ++ last missing (length met - 1) (inner_edges turns no_turn) → IsSearched p s w last limit result text
  pauses : (turns : List (Turn N L)) (met : List (Met N L)) (a : Met N L) (now : Turn N L) (e : Edge N L) → ExploresUpTo p turns met a → p.BeginsTurn a.node (with_edge now e)
      → length (arrive_all p.eq a met now.edges) ≡ limit → is_met p.eq (arrive_all p.eq a met now.edges) e.to ≡ false → AreOthers p s (arrive_all p.eq a met (now.edges ++ e ∷ []))
      → result ≡ open_ended → text ≡ w.head ++ last open_ended limit (inner_edges turns (with_edge now e)) → IsSearched p s w last limit result text
  breaks : (turns : List (Turn N L)) (met : List (Met N L)) (a : Met N L) (now : Turn N L) (at : List ℕ) → ExploresUpTo p turns met a → p.BreaksTurn a.node now at
      → length (arrive_all p.eq a met now.edges) ≤ limit → AreOthers p s (arrive_all p.eq a met now.edges)
      → result ≡ untold at → text ≡ w.head ++ last (untold at) (length (arrive_all p.eq a met now.edges) - 1) (inner_edges turns now) → IsSearched p s w last limit result text
  doubts : (turns : List (Turn N L)) (met : List (Met N L)) (a : Met N L) (now : Turn N L) (e : Edge N L) (at : List ℕ) → ExploresUpTo p turns met a → p.BeginsTurn a.node (with_edge now e)
      → length (arrive_all p.eq a met now.edges) ≤ limit → is_met p.eq (arrive_all p.eq a met now.edges) e.to ≡ false → AreOthers p s (arrive_all p.eq a met now.edges) → s.IsUntold e.to at
      → result ≡ untold at → text ≡ w.head ++ last (untold at) (length (arrive_all p.eq a met now.edges)) (inner_edges turns (with_edge now e)) → IsSearched p s w last limit result text
