-- What is claimed of breadth-first explorations.
use Rattle.std.specs.Prelude.{◌≡◌, ◌⊎◌, ◌↔◌, ℕ, true, List, [], ◌∷◌, ◌++◌, Contains, Some, slice_get}
use Rattle.zf_graph.specs.Explorations.{arrive_all, beyond, Explored, ExploresAll, ExploresUpTo, IsMet, Met, Turn}
use Rattle.zf_graph.specs.Graphs.{Graph, IsReachable, IsShortest}
use Rattle.zf_graph.specs.Edges.{Edge}
use Rattle.zf_graph.specs.Texts.{Ending, IsExplored, IsPartlyExplored, with_edge, Words}

-- What is explored is this graph: the test tells which nodes are one, a turn of a node has exactly its edges, and the beginning of one has edges of it.
pub record IsOf {N L : Type 0} (p : Explored N L) (g : Graph N L) : Type 0 where
  pub root : p.root ≡ g.root
  pub sound : (a b : N) → p.eq a b ≡ true → a ≡ b
  pub itself : (a : N) → p.eq a a ≡ true
  pub edges : (a : N) (t : Turn N L) → p.HasTurn a t → (e : Edge N L) → Contains t.edges e ↔ g.IsEdge a e
  pub some_edges : (a : N) (t : Turn N L) → p.BeginsTurn a t → (e : Edge N L) → Contains t.edges e → g.IsEdge a e

module _ {N L : Type 0} (p : Explored N L) (g : Graph N L) where
  -- Where each node that is met has its turn, those that are met are exactly the reachable ones,
  abbrev pub MeetsReachable : Type 0
  MeetsReachable = (turns : List (Turn N L)) (met : List (Met N L)) → ExploresAll p turns met → (b : N) → IsMet met b ↔ IsReachable g b

  -- each is met once,
  abbrev pub MeetsOnce : Type 0
  MeetsOnce = (turns : List (Turn N L)) (met : List (Met N L)) → ExploresAll p turns met
      → (i j : ℕ) (x y : Met N L) → slice_get met i ≡ Some x → slice_get met j ≡ Some y → x.node ≡ y.node → i ≡ j

  -- and along a way to it; none is shorter.
  abbrev pub MeetsShortly : Type 0
  MeetsShortly = (turns : List (Turn N L)) (met : List (Met N L)) → ExploresAll p turns met
      → (i : ℕ) (x : Met N L) → slice_get met i ≡ Some x → IsShortest g (λ b. b ≡ x.node) x.way

  -- The turns are those of the nodes that are met, place by place, and have exactly their edges.
  abbrev pub HasEachStep : Type 0
  HasEachStep = (turns : List (Turn N L)) (met : List (Met N L)) → ExploresAll p turns met
      → (i : ℕ) (x : Met N L) (t : Turn N L) → slice_get met i ≡ Some x → slice_get turns i ≡ Some t → p.HasTurn x.node t × ((e : Edge N L) → Contains t.edges e ↔ g.IsEdge x.node e)

  -- Where no node that was met before has the property, and the next one has it, the way along which that is met is a shortest one to a node with the property.
  abbrev pub FindsShortest : (P : N → Type 0) → Type 0
  FindsShortest P = (turns : List (Turn N L)) (before : List (Met N L)) (a : Met N L) (now : Turn N L) (e : Edge N L)
      → ExploresUpTo p turns before a → p.BeginsTurn a.node (with_edge now e)
      → ((b : N) → IsMet (arrive_all p.eq a before now.edges) b → P b → ⊥) → P e.to → IsShortest g P (beyond a e).way

-- ---- one text

-- a turn that another one begins with
pub record IsFrontTurn {N L : Type 0} (t u : Turn N L) : Type 0 where
  pub stray : t.stray ≡ u.stray
  pub more : List (Edge N L)
  pub edges : u.edges ≡ t.edges ++ more

-- A node has one turn, or one place at which its turn breaks off; what begins its turn is a front of it.
pub record IsSure {N L : Type 0} (p : Explored N L) : Type 0 where
  pub one_turn : (a : N) (t u : Turn N L) → p.HasTurn a t → p.HasTurn a u → t ≡ u
  pub one_break : (a : N) (t u : Turn N L) (x y : List ℕ) → p.BreaksTurn a t x → p.BreaksTurn a u y → (t ≡ u) × (x ≡ y)
  pub not_both : (a : N) (t u : Turn N L) (x : List ℕ) → p.HasTurn a t → p.BreaksTurn a u x → ⊥
  pub begins_whole : (a : N) (t u : Turn N L) → p.BeginsTurn a t → p.HasTurn a u → IsFrontTurn t u
  pub begins_broken : (a : N) (t u : Turn N L) (x : List ℕ) → p.BeginsTurn a t → p.BreaksTurn a u x → IsFrontTurn t u
  pub begins_both : (a : N) (t u : Turn N L) → p.BeginsTurn a t → p.BeginsTurn a u → IsFrontTurn t u ⊎ IsFrontTurn u t

-- What is written where it stops early: nothing, or the front of a first text, or of the whole.
abbrev pub IsPart : {N L : Type 0} → Explored N L → Words N L → (limit : ℕ) → List ℕ → Type 0
IsPart p w limit text = (text ≡ []) ⊎ (IsPartlyExplored p w limit text ⊎ ((ending : Ending) × IsExplored p w limit ending text))

module _ {N L : Type 0} (p : Explored N L) (w : Words N L) (limit : ℕ) where
  -- Two texts of one exploration are one, and end alike.
  abbrev pub IsWrittenInOneWay : Type 0
  IsWrittenInOneWay = (e f : Ending) (s t : List ℕ) → IsExplored p w limit e s → IsExplored p w limit f t → (e ≡ f) × (s ≡ t)

  -- What is written where an exploration stops early is the front of its text.
  abbrev pub PartsAreFronts : Type 0
  PartsAreFronts = (e : Ending) (part text : List ℕ) → IsPart p w limit part → IsExplored p w limit e text → (rest : List ℕ) × (text ≡ part ++ rest)

-- ---- there is a text

-- Each node has a turn, or a place at which its turn breaks off, and each front of the edges begins the turn.
pub record Begins {N L : Type 0} (p : Explored N L) (a : N) (t : Turn N L) : Type 0 where
  pub fronts : (es : List (Edge N L)) (e : Edge N L) (more : List (Edge N L)) → t.edges ≡ (es ++ e ∷ []) ++ more → p.BeginsTurn a (record { stray = t.stray; edges = es ++ e ∷ [] })

abbrev pub EachNodeHasTurn : {N L : Type 0} → Explored N L → Type 0
EachNodeHasTurn {N} {L} p = (a : N) → ((t : Turn N L) × p.HasTurn a t × Begins p a t) ⊎ ((t : Turn N L) × (at : List ℕ) × p.BreaksTurn a t at × Begins p a t)

module _ {N L : Type 0} (p : Explored N L) (w : Words N L) (limit : ℕ) where
  -- Then each exploration has a text.
  abbrev pub IsSomehowWritten : Type 0
  IsSomehowWritten = (ending : Ending) × (text : List ℕ) × IsExplored p w limit ending text
