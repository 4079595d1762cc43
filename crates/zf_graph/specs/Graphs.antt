-- Graphs with a root, what is reachable in them, and ways from the root.
use Rattle.std.specs.Prelude.{◌≡◌, ◌≤◌, List, [], ◌∷◌, length}
use Rattle.zf_graph.specs.Edges.{Edge}

pub record Graph (N L : Type 0) : Type 1 where
  pub root : N
  pub IsEdge : N → Edge N L → Type 0

-- the least set of nodes that has the root and is closed under edges
pub data IsReachable {N L : Type 0} (g : Graph N L) : N → Type 0 where
  at_root : (b : N) → b ≡ g.root → IsReachable g b
  along : (a : N) (e : Edge N L) (b : N) → IsReachable g a → g.IsEdge a e → b ≡ e.to → IsReachable g b

-- the edges follow each other, from this node
abbrev pub Follows : {N L : Type 0} → Graph N L → N → List (Edge N L) → Type 0
Follows g a [] = Unit {0}
Follows g a (e ∷ es) = g.IsEdge a e × Follows g e.to es

-- the node in which they end
abbrev pub end_of : {N L : Type 0} → N → List (Edge N L) → N
end_of a [] = a
end_of a (e ∷ es) = end_of e.to es

-- a way from the root to the node
pub record IsWay {N L : Type 0} (g : Graph N L) (way : List (Edge N L)) (b : N) : Type 0 where
  pub follows : Follows g g.root way
  pub ends : end_of g.root way ≡ b

-- a way from the root to a node that has the property, and none to one is shorter
pub record IsShortest {N L : Type 0} (g : Graph N L) (P : N → Type 0) (way : List (Edge N L)) : Type 0 where
  pub follows : Follows g g.root way
  pub has : P (end_of g.root way)
  pub shortest : (other : List (Edge N L)) → Follows g g.root other → P (end_of g.root other) → length way ≤ length other
