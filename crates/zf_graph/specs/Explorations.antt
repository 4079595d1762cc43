-- A breadth-first exploration: the turns of the nodes of a graph, in the order in which the nodes are met.
use Rattle.std.specs.Prelude.{◌≡◌, ℕ, ◌+◌, Bool, cond, List, [], ◌∷◌, ◌++◌, length, map, Some, slice_get}
use Rattle.std.specs.List.{list_any, position_or_len}
use Rattle.zf_graph.specs.Edges.{Edge}

-- The turn of a node: whether it is a stray, and its edges in their order.
pub record Turn (N L : Type 0) : Type 0 where
  pub stray : Bool
  pub edges : List (Edge N L)

-- What is explored: the root, the test of whether two nodes are one, and the turns of a node: which one is whole, which one is the beginning of it, and after which one the search for the next edge breaks off, with a text
-- that says at what.
pub record Explored (N L : Type 0) : Type 1 where
  pub root : N
  pub eq : N → N → Bool
  pub HasTurn : N → Turn N L → Type 0
  pub BeginsTurn : N → Turn N L → Type 0
  pub BreaksTurn : N → Turn N L → List ℕ → Type 0

-- ---- nodes in the order in which they are met

-- with one more, which stands after the others where it is new
abbrev pub with_node : {N : Type 0} → (N → N → Bool) → List N → N → List N
with_node eq nodes b = cond (list_any (eq b) nodes) nodes (nodes ++ b ∷ [])

-- with those that these edges lead to
abbrev pub with_ends : {N L : Type 0} → (N → N → Bool) → List N → List (Edge N L) → List N
with_ends eq nodes [] = nodes
with_ends eq nodes (e ∷ es) = with_ends eq (with_node eq nodes e.to) es

-- the number of a node among them, or that which it gets where it is new
abbrev pub number_in : {N : Type 0} → (N → N → Bool) → List N → N → ℕ
number_in eq nodes b = position_or_len (eq b) nodes

-- ---- with the ways to them

-- a node that was met, and the way along which it was met first
pub record Met (N L : Type 0) : Type 0 where
  pub node : N
  pub way : List (Edge N L)

abbrev pub nodes_of : {N L : Type 0} → List (Met N L) → List N
nodes_of met = map (λ x. x.node) met

-- the node is one of those that are met
pub record IsMet {N L : Type 0} (met : List (Met N L)) (b : N) : Type 0 where
  pub place : ℕ
  pub item : Met N L
  pub stands : slice_get met place ≡ Some item
  pub node : item.node ≡ b

abbrev pub is_met : {N L : Type 0} → (N → N → Bool) → List (Met N L) → N → Bool
is_met eq met b = list_any (eq b) (nodes_of met)

-- before the first turn only the root is met
abbrev pub at_first : {N L : Type 0} → N → List (Met N L)
at_first root = record { node = root; way = [] } ∷ []

-- the node that an edge leads to, with the way
abbrev pub beyond : {N L : Type 0} → Met N L → Edge N L → Met N L
beyond a e = record { node = e.to; way = a.way ++ e ∷ [] }

-- what is met once an edge of this node is passed: a node that is new stands after the others
abbrev pub arrive : {N L : Type 0} → (N → N → Bool) → Met N L → List (Met N L) → Edge N L → List (Met N L)
arrive eq a met e = cond (is_met eq met e.to) met (met ++ beyond a e ∷ [])

abbrev pub arrive_all : {N L : Type 0} → (N → N → Bool) → Met N L → List (Met N L) → List (Edge N L) → List (Met N L)
arrive_all eq a met [] = met
arrive_all eq a met (e ∷ es) = arrive_all eq a (arrive eq a met e) es

-- ---- turns

-- Each turn is that of the next node: these are the turns from the node at the place on, where so many are met before and so many after.
abbrev pub Explores : {N L : Type 0} → Explored N L → (met : List (Met N L)) → (place : ℕ) → List (Turn N L) → (after : List (Met N L)) → Type 0
Explores p met place [] after = after ≡ met
Explores {N} {L} p met place (t ∷ ts) after =
    (a : Met N L) × (slice_get met place ≡ Some a) × p.HasTurn a.node t × Explores p (arrive_all p.eq a met t.edges) (place + 1) ts after

-- the exploration of a whole graph: each node that is met has its turn
pub record ExploresAll {N L : Type 0} (p : Explored N L) (turns : List (Turn N L)) (met : List (Met N L)) : Type 0 where
  pub explores : Explores p (at_first p.root) 0 turns met
  pub each : length turns ≡ length met

-- the exploration up to the turn of a node: these turns, in which so many are met, and it is the turn of this one
pub record ExploresUpTo {N L : Type 0} (p : Explored N L) (turns : List (Turn N L)) (met : List (Met N L)) (a : Met N L) : Type 0 where
  pub explores : Explores p (at_first p.root) 0 turns met
  pub next : slice_get met (length turns) ≡ Some a
