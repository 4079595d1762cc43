-- What plans are: for private contracts and the model of `Search` alone.
use Rattle.std.specs.Prelude.{◌≡◌, ℕ, ◌+◌, ◌<◌, ◌≤◌, Bool, true, false, ◌||◌, List, [], length, slice_index_or, AllPairs, Contains}
use Rattle.zf_plan.specs.Prelude.{Conjuncts}
use Rattle.zf_plan.specs.Trees.{Tree, leaf, negated, both, either, tree_at}
use Rattle.zf_plan.specs.Knowing.{touches, IsLeafDue, AreBelow}
use Rattle.zf_plan.specs.Choosing.{AreLasts}
use Rattle.zf_plan.specs.Blaming.{Covers}
use Rattle.zf_plan.specs.declared.plan.Choosers.{Choosers}
use Rattle.zf_plan.specs.declared.plan.Layer.{Layer}
use Rattle.zf_plan.specs.declared.plan.Plan.{Plan}

-- whether a tree that is no leaf has a leaf that needs so many values
abbrev pub touches_inside : {V : Type 0} → Conjuncts V → ℕ → Tree → Bool
touches_inside l due (leaf c) = false
touches_inside l due (negated a) = touches l due a
touches_inside l due (both a b) = touches l due a || touches l due b
touches_inside l due (either a b) = touches l due a || touches l due b

-- the leaves that the first n conjuncts are, as far as these are leaves that need k values; in order, where each conjunct is the leaf with its number
pub record AreDue {V : Type 0} (l : Conjuncts V) (trees : List Tree) (k n : ℕ) (leaves : List ℕ) : Type 0 where
  pub all : (j c : ℕ) → j < n → IsLeafDue l k (tree_at trees j) c → Contains leaves c
  pub only : (c : ℕ) → Contains leaves c → (j : ℕ) × (j < n) × IsLeafDue l k (tree_at trees j) c
  pub ascending : ((j : ℕ) → j < n → tree_at trees j ≡ leaf j) → AllPairs (λ i j. i < j) leaves

-- the first n conjuncts, as far as they are no leaves and have a leaf that needs k values
pub record AreTouched {V : Type 0} (l : Conjuncts V) (trees : List Tree) (k n : ℕ) (numbers : List ℕ) : Type 0 where
  pub below : AreBelow n numbers
  pub all : (j : ℕ) → j < n → touches_inside l k (tree_at trees j) ≡ true → Contains numbers j
  pub only : (j : ℕ) → Contains numbers j → touches_inside l k (tree_at trees j) ≡ true

-- these are conjuncts, with how many of the first k components each and those before it use at most
pub record AreChoosers (uses : ℕ → ℕ → Bool) (trees : List Tree) (k : ℕ) (by : Choosers) : Type 0 where
  pub conjuncts : AreBelow (length trees) by.conjuncts.items
  pub lasts : AreLasts uses trees k by.conjuncts.items by.lasts.items

-- what k values concern
pub record IsLayer {V : Type 0} (l : Conjuncts V) (uses : ℕ → ℕ → Bool) (trees : List Tree) (k : ℕ) (layer : Layer) : Type 0 where
  pub due : AreDue l trees k (length trees) layer.due.items
  pub touched : AreTouched l trees k (length trees) layer.touched.items
  pub narrowing : AreChoosers uses trees k layer.narrowing
  pub sifting : AreChoosers uses trees k layer.sifting
  pub blame : k ≤ 64 → Covers l uses trees k (length trees) layer.blame

-- no component is narrowed or sifted
pub record IsBare (layer : Layer) : Type 0 where
  pub unnarrowed : layer.narrowing.conjuncts.items ≡ []
  pub unsifted : layer.sifting.conjuncts.items ≡ []

pub record IsPlan {V : Type 0} (l : Conjuncts V) (uses : ℕ → ℕ → Bool) (trees : List Tree) (n : ℕ) (plan : Plan) : Type 0 where
  pub all : length plan.layers.items ≡ n + 1
  pub each : (k : ℕ) (d : Layer) → k < length plan.layers.items → IsLayer l uses trees k (slice_index_or plan.layers.items k d)
  pub bare : plan.is_plain ≡ true → (k : ℕ) (d : Layer) → k < length plan.layers.items → IsBare (slice_index_or plan.layers.items k d)
