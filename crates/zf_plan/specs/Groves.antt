-- Forests: trees by the places of their nodes.
use Rattle.std.specs.Prelude.{◌≡◌, ℕ, ◌<◌, List, [], ◌∷◌, ◌++◌, length, map, All, Some, slice_get}
use Rattle.zf_plan.specs.declared.node.Node.{Node}
use Rattle.zf_plan.specs.declared.node.Node.TheVariants.{Leaf, Not, And, Or}
use Rattle.zf_plan.specs.Trees.{Tree, leaf, negated, both, either, tree_at, HasLeavesWithin}

-- nodes, and the places of those whose trees are conjuncts
pub record Grove : Type 0 where
  pub nodes : List Node
  pub roots : List ℕ

-- a node over the trees that were made so far
abbrev pub tree_of : List Tree → Node → Tree
tree_of made (Leaf c) = leaf c
tree_of made (Not a) = negated (tree_at made a)
tree_of made (And a b) = both (tree_at made a) (tree_at made b)
tree_of made (Or a b) = either (tree_at made a) (tree_at made b)

-- these trees, and then one for each node, over those before it
abbrev pub trees_onto : List Tree → List Node → List Tree
trees_onto made [] = made
trees_onto made (node ∷ nodes) = trees_onto (made ++ tree_of made node ∷ []) nodes

-- the trees of all nodes, in order
unfoldable pub trees_made : Grove → List Tree
trees_made g = trees_onto [] g.nodes

-- the trees that are conjuncts, in order
abbrev pub trees_of : Grove → List Tree
trees_of g = map (tree_at (trees_made g)) g.roots

-- the tree at this place is made, and has leaves within so many
pub record IsPart (n : ℕ) (g : Grove) (place : ℕ) : Type 0 where
  pub made : place < length (trees_made g)
  pub leaves : HasLeavesWithin n (tree_at (trees_made g) place)

-- the places that a node names come before this one
abbrev pub IsOver : ℕ → Node → Type 0
IsOver n (Leaf c) = Unit {0}
IsOver n (Not a) = a < n
IsOver n (And a b) = (a < n) × (b < n)
IsOver n (Or a b) = (a < n) × (b < n)

-- each node is over earlier ones, and each root is one
pub record IsGrown (g : Grove) : Type 0 where
  pub over : (i : ℕ) (node : Node) → slice_get g.nodes i ≡ Some node → IsOver i node
  pub roots : All (λ r. r < length g.nodes) g.roots

-- the next tree is this one
pub record Grows (old : Grove) (tree : Tree) (at : ℕ) (new : Grove) : Type 0 where
  pub made : trees_made new ≡ trees_made old ++ tree ∷ []
  pub place : at ≡ length (trees_made old)
  pub trees : trees_of new ≡ trees_of old

-- the tree at this place is the next conjunct
pub record Takes (old : Grove) (at : ℕ) (new : Grove) : Type 0 where
  pub made : trees_made new ≡ trees_made old
  pub trees : trees_of new ≡ trees_of old ++ tree_at (trees_made old) at ∷ []
