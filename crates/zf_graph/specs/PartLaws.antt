-- The graph whose edges are searched for in parts, and when what is searched is in order. No text of an exploration rests on this.
use Rattle.std.specs.Prelude.{◌≡◌, ◌⊎◌, ℕ, Bool, Some, slice_get, List}
use Rattle.zf_graph.specs.Edges.{Edge}
use Rattle.zf_graph.specs.Graphs.{Graph}
use Rattle.zf_graph.specs.Parts.{Searched}

module _ {N L O X : Type 0} (s : Searched N L O X) where
  -- an edge is found in a part
  pub record IsFound (a : N) (e : Edge N L) : Type 0 where
    pub number : ℕ
    pub part : O
    pub find : X
    pub stands : slice_get (s.parts a) number ≡ Some part
    pub has : s.Has a part find
    pub holds : s.Holds find
    pub is : s.edge number part find ≡ e

  abbrev pub graph_of : Graph N L
  graph_of = record { root = s.root; IsEdge = IsFound }

  -- The order tells what is found in a part apart, nothing both holds and can't be decided, and no node both is a stray and is none.
  pub record IsOrderly : Type 0 where
    pub sound : (a b : N) → s.eq a b ≡ Bool.true → a ≡ b
    pub itself : (a : N) → s.eq a a ≡ Bool.true
    pub never_both : (x y : X) → s.IsBefore x y → s.IsBefore y x → ⊥
    pub linear : (a : N) (o : O) (x y : X) → s.Has a o x → s.Has a o y → (x ≡ y) ⊎ s.IsBefore x y ⊎ s.IsBefore y x
    pub told : (x : X) → s.Holds x → s.IsOut x → ⊥
    pub one_stray : (a : N) (b c : Bool) → s.IsStray a b → s.IsStray a c → b ≡ c
    pub one_doubt : (a : N) (at by : List ℕ) → s.IsDoubtful a at → s.IsDoubtful a by → at ≡ by
    pub no_doubt : (a : N) (b : Bool) (at : List ℕ) → s.IsStray a b → s.IsDoubtful a at → ⊥
