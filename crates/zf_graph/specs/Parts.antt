-- Graphs whose edges are searched for: those of a node in parts, one after another, and those of a part in the order in which a search comes to them.
use Rattle.std.specs.Prelude.{◌≡◌, ◌⊎◌, ◌↔◌, ℕ, ◌+◌, Bool, List, [], ◌∷◌, ◌++◌, map, AllPairs, Contains}
use Rattle.zf_graph.specs.Explorations.{Explored, Turn}
use Rattle.zf_graph.specs.Edges.{Edge}
use Rattle.zf_graph.specs.Texts.{no_turn}

-- What is searched: for nodes, in parts, for finds of which each is an edge, or can't be decided.
pub record Searched (N L O X : Type 0) : Type 1 where
  pub root : N
  pub eq : N → N → Bool
  -- the parts of a node's edges
  pub parts : N → List O
  -- what is found in a part, and in which order
  pub Has : N → O → X → Type 0
  pub IsBefore : X → X → Type 0
  pub Holds : X → Type 0
  pub IsOut : X → Type 0
  -- the edge, by the number of its part, and what is said of what can't be decided
  pub edge : ℕ → O → X → Edge N L
  pub stop : O → X → List ℕ
  -- whether a node is a stray, or that it can't be decided, with what is said then
  pub IsStray : N → Bool → Type 0
  pub IsDoubtful : N → List ℕ → Type 0

module _ {N L O X : Type 0} (s : Searched N L O X) where
  abbrev pub EachHolds : List X → Type 0
  EachHolds xs = (x : X) → Contains xs x → s.Holds x

  module _ (a : N) where
    -- all that is found in a part
    pub record AreFinds (o : O) (xs : List X) : Type 0 where
      pub ascending : AllPairs s.IsBefore xs
      pub members : (x : X) → Contains xs x ↔ s.Has a o x

    -- what is found first
    pub record AreFirst (o : O) (xs : List X) : Type 0 where
      pub ascending : AllPairs s.IsBefore xs
      pub are : (x : X) → Contains xs x → s.Has a o x
      pub first : (x y : X) → Contains xs x → s.Has a o y → s.IsBefore y x → Contains xs y

    -- the edges of these parts, the first of which has this number
    abbrev pub HasParts : (number : ℕ) → List O → List (Edge N L) → Type 0
    HasParts number [] es = es ≡ []
    HasParts number (o ∷ os) es = (xs : List X) × (rest : List (Edge N L)) × AreFinds o xs × EachHolds xs × HasParts (number + 1) os rest × (es ≡ map (s.edge number o) xs ++ rest)

    -- the first of them
    abbrev pub BeginsParts : (number : ℕ) → List O → List (Edge N L) → Type 0
    BeginsParts number [] es = es ≡ []
    BeginsParts number (o ∷ os) es =
        ((xs : List X) × AreFirst o xs × EachHolds xs × (es ≡ map (s.edge number o) xs))
        ⊎ ((xs : List X) × (rest : List (Edge N L)) × AreFinds o xs × EachHolds xs × BeginsParts (number + 1) os rest × (es ≡ map (s.edge number o) xs ++ rest))

    -- those before the first that can't be decided
    abbrev pub BreaksParts : (number : ℕ) → List O → List (Edge N L) → (at : List ℕ) → Type 0
    BreaksParts number [] es at = ⊥
    BreaksParts number (o ∷ os) es at =
        ((xs : List X) × (x : X) × AreFirst o (xs ++ x ∷ []) × EachHolds xs × s.IsOut x × (es ≡ map (s.edge number o) xs) × (at ≡ s.stop o x))
        ⊎ ((xs : List X) × (rest : List (Edge N L)) × AreFinds o xs × EachHolds xs × BreaksParts (number + 1) os rest at × (es ≡ map (s.edge number o) xs ++ rest))

  abbrev pub HasTurn : N → Turn N L → Type 0
  HasTurn a t = s.IsStray a t.stray × HasParts a 0 (s.parts a) t.edges

  abbrev pub BeginsTurn : N → Turn N L → Type 0
  BeginsTurn a t = s.IsStray a t.stray × BeginsParts a 0 (s.parts a) t.edges

  abbrev pub BreaksTurn : N → Turn N L → List ℕ → Type 0
  BreaksTurn a t at = ((t ≡ no_turn) × s.IsDoubtful a at) ⊎ (s.IsStray a t.stray × BreaksParts a 0 (s.parts a) t.edges at)

  abbrev pub explored_of : Explored N L
  explored_of = record { root = s.root; eq = s.eq; HasTurn = HasTurn; BeginsTurn = BeginsTurn; BreaksTurn = BreaksTurn }
