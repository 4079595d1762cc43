-- Edges of a graph.

-- an edge from a node: what it is labelled by, and the node that it leads to
pub record Edge (N L : Type 0) : Type 0 where
  pub label : L
  pub to : N
