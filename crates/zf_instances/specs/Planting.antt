-- Predicates as trees over their parts that are no connectives. No public clause rests on this.
use Rattle.std.specs.Prelude.{◌≡◌, ◌↔◌, ℕ, ◌<◌, ◌≤◌, List, [], ◌∷◌, ◌++◌, length, map, Some, slice_get}
use Rattle.zf_instances.specs.Prelude.{resolved_of, ResolvedTree, Value, Grove, HasLeavesWithin, IsTreeTruth, Tree, tree_at, trees_made, trees_of, Environment, in_row, IsTruth}
use Rattle.zf_term.specs.declared.resolved.Resolved.{Resolved}
use Rattle.zf_walk.specs.declared.judge.Truth.{Truth}
use Rattle.zf_enum.specs.{due, due_of, told, property}

-- the tree has the predicate's truths, over these leaves
pub record IsPlanted (leaves : List ResolvedTree) (p : ResolvedTree) (tree : Tree) : Type 0 where
  pub within : HasLeavesWithin (length leaves) tree
  pub same : (e : Environment) (row : List Value) (t : Truth) → IsTreeTruth (property e leaves) tree row t ↔ IsTruth (in_row e row) p (told t)

-- none of these terms needs more than the first n components
abbrev pub NeedWithin : ℕ → List ResolvedTree → Type 0
NeedWithin n ts = (c : ℕ) → due_of (slice_get ts c) ≤ n

-- the tree at the place has the predicate's truths; leaves and trees were only added, and the new leaves need no more components than the predicate
pub record Plants (old : List Resolved) (g : Grove) (p : ResolvedTree) (place : ℕ) (new : List Resolved) (h : Grove) : Type 0 where
  pub leaves : (further : List Resolved) × (new ≡ old ++ further)
  pub trees : (further : List Tree) × (trees_made h ≡ trees_made g ++ further)
  pub within : place < length (trees_made h)
  pub planted : IsPlanted (map resolved_of new) p (tree_at (trees_made h) place)
  pub conjuncts : trees_of h ≡ trees_of g
  pub needs : (n : ℕ) → NeedWithin n (map resolved_of old) → due p ≤ n → NeedWithin n (map resolved_of new)

-- each predicate has a tree with its truths over the leaves, which need no more components than the predicates
pub record ArePlanted (ps : List ResolvedTree) (leaves : List Resolved) (trees : List Tree) : Type 0 where
  pub number : length trees ≡ length ps
  pub each : (c : ℕ) (p : ResolvedTree) → slice_get ps c ≡ Some p → IsPlanted (map resolved_of leaves) p (tree_at trees c)
  pub needs : (n : ℕ) → NeedWithin n ps → NeedWithin n (map resolved_of leaves)

-- what was planted stays, and the predicate's tree is the next
abbrev pub PlantsNext : List Resolved → Grove → ResolvedTree → List Resolved → Grove → Type 0
PlantsNext old g p new h = (ps : List ResolvedTree) → ArePlanted ps old (trees_of g) → ArePlanted (ps ++ p ∷ []) new (trees_of h)
