-- What is known of leaves and trees at a row: for private contracts and the model of `Search` alone.
use Rattle.std.specs.Prelude.{◌≡◌, ◌⊎◌, ℕ, ◌<◌, ◌≤◌, Bool, true, ◌||◌, nat_eq, List, ◌++◌, length, take, slice_index_or, Contains, Option, Some, None}
use Rattle.zf_plan.specs.Prelude.{Truth, True, False, Out, Conjuncts, AreTrue, picked}
use Rattle.zf_plan.specs.Memories.{Memory, AreDues}
use Rattle.zf_plan.specs.Trees.{Tree, leaf, negated, both, either, opposite, IsTreeTruth, due_of, tree_at}

-- what was found of a leaf that needs no more values than there are is its truth on those that it needs
pub record Tells {V : Type 0} (l : Conjuncts V) (ranges : List (List V)) (places : List ℕ) (told : List (Option Truth)) : Type 0 where
  pub all : length told ≡ l.number
  pub right : (c : ℕ) (t : Truth) → c < l.number → l.due c ≤ length places → slice_index_or told c None ≡ Some t → l.says c (picked ranges (take (l.due c) places)) t

-- what a search remembers is right at these places
pub record Remembers {V : Type 0} (l : Conjuncts V) (uses : ℕ → ℕ → Bool) (ranges : List (List V)) (places : List ℕ) (m : Memory) : Type 0 where
  pub dues : AreDues l m.dues
  pub tells : Tells l ranges places m.truths
  pub tables : AreTrue l uses ranges m.tables

-- the truth of a tree on every row that begins with this one
abbrev pub IsSettled : {V : Type 0} → Conjuncts V → Tree → List V → Truth → Type 0
IsSettled {V} l tree row t = (more : List V) → IsTreeTruth l tree (row ++ more) t

-- the tree is settled, or it needs more values
abbrev pub IsKnown : {V : Type 0} → Conjuncts V → Tree → List V → Option Truth → Type 0
IsKnown l tree row (Some t) = IsSettled l tree row t
IsKnown l tree row None = length row < due_of l tree

-- what is known of a negation, of a conjunction and of a disjunction from what is known of the sides
abbrev pub known_not : Option Truth → Option Truth
known_not None = None
known_not (Some t) = Some (opposite t)

abbrev pub known_both : Option Truth → Option Truth → Option Truth
known_both (Some False) b = Some False
known_both None (Some False) = Some False
known_both None None = None
known_both None (Some True) = None
known_both None (Some Out) = None
known_both (Some True) b = b
known_both (Some Out) None = None
known_both (Some Out) (Some False) = Some False
known_both (Some Out) (Some True) = Some Out
known_both (Some Out) (Some Out) = Some Out

abbrev pub known_either : Option Truth → Option Truth → Option Truth
known_either a b = known_not (known_both (known_not a) (known_not b))

-- the truth of two conjuncts
abbrev pub conjoined : Truth → Truth → Truth
conjoined True u = u
conjoined False u = False
conjoined Out True = Out
conjoined Out False = False
conjoined Out Out = Out

-- the same where the second may not be known
abbrev pub joined : Truth → Option Truth → Truth
joined t None = t
joined t (Some u) = conjoined t u

-- whether a tree has a leaf that needs so many values
abbrev pub touches : {V : Type 0} → Conjuncts V → ℕ → Tree → Bool
touches l due (leaf c) = nat_eq (l.due c) due
touches l due (negated a) = touches l due a
touches l due (both a b) = touches l due a || touches l due b
touches l due (either a b) = touches l due a || touches l due b

-- one of the conjuncts that have a leaf which needs just this row is False on every row that begins with it
abbrev pub IsRefuted : {V : Type 0} → Conjuncts V → List Tree → List V → Type 0
IsRefuted l trees row = (j : ℕ) × (j < length trees) × IsSettled l (tree_at trees j) row False × (touches l (length row) (tree_at trees j) ≡ true)

-- the truth of the conjuncts of which P holds, on every row that begins with this one: False where some conjunct is, else True where all of these are, else Out where some conjunct is
unfoldable pub IsSoFar : {V : Type 0} → Conjuncts V → List Tree → List V → (ℕ → Type 0) → Truth → Type 0
IsSoFar l trees row P False = IsRefuted l trees row
IsSoFar l trees row P True = (j : ℕ) → j < length trees → P j → IsSettled l (tree_at trees j) row True
IsSoFar l trees row P Out = ((j : ℕ) → j < length trees → P j → IsSettled l (tree_at trees j) row True ⊎ IsSettled l (tree_at trees j) row Out)
    × ((j : ℕ) × (j < length trees) × IsSettled l (tree_at trees j) row Out)

-- the conjunct needs at most k values
abbrev pub NeedsWithin : {V : Type 0} → Conjuncts V → List Tree → ℕ → ℕ → Type 0
NeedsWithin l trees k j = due_of l (tree_at trees j) ≤ k

-- the conjunct needs fewer than k values
abbrev pub NeedsBelow : {V : Type 0} → Conjuncts V → List Tree → ℕ → ℕ → Type 0
NeedsBelow l trees k j = due_of l (tree_at trees j) < k

-- the tree is a leaf that needs k values
abbrev pub IsLeafDue : {V : Type 0} → Conjuncts V → ℕ → Tree → ℕ → Type 0
IsLeafDue l k tree c = (tree ≡ leaf c) × (l.due c ≡ k)

-- the conjunct needs fewer than k values, or it is a leaf that needs so many
abbrev pub IsLeafOrBelow : {V : Type 0} → Conjuncts V → List Tree → ℕ → ℕ → Type 0
IsLeafOrBelow l trees k j = NeedsBelow l trees k j ⊎ (c : ℕ) × IsLeafDue l k (tree_at trees j) c

-- or it is one of these and needs at most k values
abbrev pub IsAmong : {V : Type 0} → Conjuncts V → List Tree → ℕ → List ℕ → ℕ → Type 0
IsAmong l trees k conjuncts j = IsLeafOrBelow l trees k j ⊎ Contains conjuncts j × NeedsWithin l trees k j

-- each of these is less
abbrev pub AreBelow : ℕ → List ℕ → Type 0
AreBelow n js = (i : ℕ) → i < length js → slice_index_or js i 0 < n
