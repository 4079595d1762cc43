-- What is claimed of a breadth-first search for a node. No text of a whole search rests on this.
use Rattle.std.specs.Prelude.{◌≡◌, ◌⊎◌, ◌++◌, ℕ, List, []}
use Rattle.zf_graph.specs.Edges.{Edge}
use Rattle.zf_graph.specs.Explorations.{Explored}
use Rattle.zf_graph.specs.Graphs.{Graph, IsReachable, IsShortest}
use Rattle.zf_graph.specs.Seeking.{found, IsSearched, missing, Result, Sought, way_text}
use Rattle.zf_graph.specs.Texts.{Words}

-- What is written where it stops early: nothing, or the front of its text.
abbrev pub IsSearchedPart : {N L : Type 0} → Explored N L → Sought N → Words N L → (last : Result → (nodes edges : ℕ) → List ℕ) → (limit : ℕ) → List ℕ → Type 0
IsSearchedPart p s w last limit text = (text ≡ []) ⊎ ((result : Result) × IsSearched p s w last limit result text)

-- A node is at most one of the three, and what can't be decided is reported by one text. The root is not sought.
pub record IsDecisive {N L : Type 0} (p : Explored N L) (s : Sought N) : Type 0 where
  pub not_both : (b : N) → s.IsOther b → s.IsSought b → ⊥
  pub not_other : (b : N) (at : List ℕ) → s.IsUntold b at → s.IsOther b → ⊥
  pub not_sought : (b : N) (at : List ℕ) → s.IsUntold b at → s.IsSought b → ⊥
  pub one_text : (b : N) (at by : List ℕ) → s.IsUntold b at → s.IsUntold b by → at ≡ by
  pub root : s.IsSought p.root → ⊥
  pub root_told : (at : List ℕ) → s.IsUntold p.root at → ⊥

module _ {N L : Type 0} (p : Explored N L) (g : Graph N L) (s : Sought N) (w : Words N L) (last : Result → (nodes edges : ℕ) → List ℕ) (limit : ℕ) where
  -- what is written where one is found: the way to it is a shortest one to a node that is sought
  pub record ShowsShortest (text : List ℕ) : Type 0 where
    pub way : List (Edge N L)
    pub nodes : List N
    pub states : ℕ
    pub steps : ℕ
    pub shortest : IsShortest g s.IsSought way
    pub written : text ≡ (w.head ++ way_text w p.eq nodes p.root way) ++ last found states steps

  abbrev pub FoundIsShortest : Type 0
  FoundIsShortest = (text : List ℕ) → IsSearched p s w last limit found text → ShowsShortest text

  -- where none is found, no reachable node is sought
  abbrev pub MissingIsNowhere : Type 0
  MissingIsNowhere = (text : List ℕ) → IsSearched p s w last limit missing text → (b : N) → IsReachable g b → s.IsSought b → ⊥

-- each node but for the root is sought, or another, or it can't be decided
abbrev pub EachIsTold : {N L : Type 0} → Explored N L → Sought N → Type 0
EachIsTold {N} p s = (b : N) → (b ≡ p.root) ⊎ (s.IsSought b ⊎ (s.IsOther b ⊎ ((at : List ℕ) × s.IsUntold b at)))

module _ {N L : Type 0} (p : Explored N L) (s : Sought N) (w : Words N L) (last : Result → (nodes edges : ℕ) → List ℕ) (limit : ℕ) where
  -- Two texts of one search are one, and end alike.
  abbrev pub IsSearchedInOneWay : Type 0
  IsSearchedInOneWay = (q r : Result) (t u : List ℕ) → IsSearched p s w last limit q t → IsSearched p s w last limit r u → (q ≡ r) × (t ≡ u)

  -- A search has a text.
  abbrev pub IsSomehowSearched : Type 0
  IsSomehowSearched = (result : Result) × (text : List ℕ) × IsSearched p s w last limit result text
