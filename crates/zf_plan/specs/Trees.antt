-- Conjuncts as trees over leaves: the truth of a tree from those of its leaves.
use Rattle.std.specs.Prelude.{◌≡◌, ◌⊎◌, ℕ, ◌<◌, List, length, max, slice_index_or, All}
use Rattle.zf_plan.specs.Prelude.{Truth, True, False, Out, Conjuncts}

-- a leaf by its place, and what the connectives make
pub data Tree : Type 0 where
  leaf : ℕ → Tree
  negated : Tree → Tree
  both : Tree → Tree → Tree
  either : Tree → Tree → Tree

-- True and False exchanged
abbrev pub opposite : Truth → Truth
opposite True = False
opposite False = True
opposite Out = Out

-- of two sides: False where one is, True where both are, else Out
abbrev pub IsOfBoth : (Truth → Type 0) → (Truth → Type 0) → Truth → Type 0
IsOfBoth P Q False = P False ⊎ Q False
IsOfBoth P Q True = P True × Q True
IsOfBoth P Q Out = (P True ⊎ P Out) × (Q True ⊎ Q Out) × (P Out ⊎ Q Out)

-- of two sides: True where one is, False where both are, else Out
abbrev pub IsOfEither : (Truth → Type 0) → (Truth → Type 0) → Truth → Type 0
IsOfEither P Q True = P True ⊎ Q True
IsOfEither P Q False = P False × Q False
IsOfEither P Q Out = (P False ⊎ P Out) × (Q False ⊎ Q Out) × (P Out ⊎ Q Out)

-- the truth of a tree on a row
abbrev pub IsTreeTruth : {V : Type 0} → Conjuncts V → Tree → List V → Truth → Type 0
IsTreeTruth l (leaf c) row t = l.says c row t
IsTreeTruth l (negated a) row t = IsTreeTruth l a row (opposite t)
IsTreeTruth l (both a b) row t = IsOfBoth (IsTreeTruth l a row) (IsTreeTruth l b row) t
IsTreeTruth l (either a b) row t = IsOfEither (IsTreeTruth l a row) (IsTreeTruth l b row) t

-- how many first components a tree needs
abbrev pub due_of : {V : Type 0} → Conjuncts V → Tree → ℕ
due_of l (leaf c) = l.due c
due_of l (negated a) = due_of l a
due_of l (both a b) = max (due_of l a) (due_of l b)
due_of l (either a b) = max (due_of l a) (due_of l b)

-- P holds of each leaf of a tree
abbrev pub EachLeaf : (ℕ → Type 0) → Tree → Type 0
EachLeaf P (leaf c) = P c
EachLeaf P (negated a) = EachLeaf P a
EachLeaf P (both a b) = EachLeaf P a × EachLeaf P b
EachLeaf P (either a b) = EachLeaf P a × EachLeaf P b

-- the leaves of a tree are among the first n
abbrev pub HasLeavesWithin : ℕ → Tree → Type 0
HasLeavesWithin n (leaf c) = c < n
HasLeavesWithin n (negated a) = HasLeavesWithin n a
HasLeavesWithin n (both a b) = HasLeavesWithin n a × HasLeavesWithin n b
HasLeavesWithin n (either a b) = HasLeavesWithin n a × HasLeavesWithin n b

abbrev pub HaveLeavesWithin : ℕ → List Tree → Type 0
HaveLeavesWithin n trees = All (HasLeavesWithin n) trees

-- one of the trees
abbrev pub tree_at : List Tree → ℕ → Tree
tree_at trees j = slice_index_or trees j (leaf 0)

-- the conjuncts that trees are, over these leaves
abbrev pub planted : {V : Type 0} → Conjuncts V → List Tree → Conjuncts V
planted l trees = record {
  number = length trees;
  due = λ j. due_of l (tree_at trees j);
  says = λ j. IsTreeTruth l (tree_at trees j);
}

-- a tree for each of n leaves, in order, and it is the leaf
pub record IsFlat (n : ℕ) (trees : List Tree) : Type 0 where
  pub number : length trees ≡ n
  pub leaves : (c : ℕ) → c < n → tree_at trees c ≡ leaf c
