-- Equations of an expression of one component alone with one of those before, and the keys of the component's values. No public clause rests on this.
use Rattle.std.specs.Prelude.{◌≡◌, ◌⊎◌, ℕ, ◌-◌, ◌≤◌, true, cond, List, Some, IfSome, fold, slice_get}
use Rattle.zf_enum.specs.Prelude.{Equal, chain, link, no_links, ResolvedTree, Value, Outcome, Is, Undefined, Out, Environment, HasOutcome, in_row, Span}
use Rattle.std.specs.Hash.FoldHasher as folding
use Rattle.zf_value.specs.contracts.plain.ValueHash.TheImpl as hashed
use Rattle.zf_enum.specs.Property.{due}
use Rattle.zf_enum.specs.Uses.{uses}

-- the sides of an equation
abbrev pub left_of : ResolvedTree → ResolvedTree
left_of (chain l a ks) = a
left_of t = t

abbrev pub right_of : ResolvedTree → ResolvedTree
right_of (chain l a (link r b ks)) = b
right_of t = t

-- that which names the component, the left one if both do
abbrev pub key_side : ResolvedTree → ℕ → ResolvedTree
key_side p k = cond (uses (left_of p) k) (left_of p) (right_of p)

-- the term names component k and no other
pub record IsOnly (t : ResolvedTree) (k : ℕ) : Type 0 where
  pub named : uses t k ≡ true
  pub alone : (j : ℕ) → uses t j ≡ true → j ≡ k

-- of two terms t is one that names component k alone, and s the other, which names only those before
pub record AreSides (left right : ResolvedTree) (k : ℕ) (t s : ResolvedTree) : Type 0 where
  pub sides : ((left ≡ t) × (right ≡ s)) ⊎ ((left ≡ s) × (right ≡ t))
  pub key : IsOnly t k
  pub before : due s ≤ k

-- the predicate equates two such terms
abbrev pub IsKeyed : ResolvedTree → ℕ → ResolvedTree → ResolvedTree → Type 0
IsKeyed p k t s = (span : Span) × (left right : ResolvedTree) × (p ≡ chain span left (link Equal right no_links)) × AreSides left right k t s

-- a number of a value, which others may have too
unfoldable pub number_of : Value → ℕ
number_of v = folding.finish (fold folding.write folding.initial (hashed.ghosts.hash_input v))

-- the key of an outcome that is not out
abbrev pub IsKey : Outcome → ℕ → Type 0
IsKey (Is v) n = n ≡ number_of v
IsKey Undefined n = n ≡ 0
IsKey Out n = ⊥

-- the expression has this key in the row
abbrev pub HasKey : Environment → List Value → ResolvedTree → ℕ → Type 0
HasKey e row t n = (o : Outcome) × HasOutcome (in_row e row) t o × IsKey o n

-- the expression has this key in each row that has the value as component k
abbrev pub HasKeyWith : Environment → ResolvedTree → ℕ → Value → ℕ → Type 0
HasKeyWith e t k v n = (row : List Value) → slice_get row k ≡ Some v → HasKey e row t n

-- in each row that has the value as the last component which the conjunct needs, the side that names it has the key
abbrev pub IsKeyOfValue : Environment → List ResolvedTree → ℕ → Value → ℕ → Type 0
IsKeyOfValue e ts c v n = IfSome (slice_get ts c) (λ p. HasKeyWith e (key_side p (due p - 1)) (due p - 1) v n)
