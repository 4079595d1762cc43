-- What is known of the truths of conjuncts: for private contracts and the model of `Walk` alone.
use Rattle.std.specs.Prelude.{◌≡◌, ◌⊎◌, ℕ, ◌+◌, ◌*◌, ◌/◌, ◌%◌, ◌<◌, ◌^◌, Bool, true, List, [], ◌∷◌, length, Contains, slice_index, slice_index_or, Option, Some, None, IfSome}
use Rattle.zf_walk.specs.declared.judge.Truth.{Truth}
use Rattle.zf_walk.specs.declared.judge.Truth.TheVariants as truth
use Rattle.zf_walk.specs.declared.entry.Entry.{Entry}
use Rattle.zf_walk.specs.declared.entry.Entry.TheVariants.{Unknown, True, False, Out}
use Rattle.zf_walk.specs.declared.table.Used.{Used}
use Rattle.zf_walk.specs.declared.table.Table.{Table}
use Rattle.zf_walk.specs.Conjuncts.{Conjuncts}
use Rattle.zf_walk.specs.Picked.{AreWithin, picked}
use Rattle.zf_walk.specs.Seen.{IsSeen, unseen}

-- the truth that an entry is, if it is known
abbrev pub told : Entry → Option Truth
told Unknown = None
told True = Some truth.True
told False = Some truth.False
told Out = Some truth.Out

-- the number with the digits of n and then, as further ones, the places of these components
abbrev pub number : ℕ → List Used → List ℕ → ℕ
number n [] places = n
number n (u ∷ us) places = number (n * u.count + slice_index places u.component) us places

-- how many combinations of values these components have
abbrev pub combinations : List Used → ℕ
combinations [] = 1
combinations (u ∷ us) = u.count * combinations us

-- each of these components has a place, among its values
abbrev pub HavePlaces : List Used → List ℕ → Type 0
HavePlaces us places = (u : Used) → Contains us u → (u.component < length places) × (slice_index places u.component < u.count)

-- a table with a number for the row at these places
pub record Fits (places : List ℕ) (t : Table) : Type 0 where
  pub used : HavePlaces t.used.items places
  pub few : combinations t.used.items < 2 ^ 64

-- what is known of the row at these places
abbrev pub known : Table → List ℕ → Option Truth
known t places = told (slice_index_or t.entries.items (number 0 t.used.items places) Unknown)

-- that is marked as the truth on the rows with this number
abbrev pub IsMarked : Table → ℕ → Truth → Type 0
IsMarked t n u = (0 < t.width) × IsSeen (slice_index_or t.seen.items (n / t.width) unseen) (n % t.width) u

-- What is known or marked of a row was so before, or it is the truth that is kept and the row has the number of the one that it is kept of.
pub record Keeps (places : List ℕ) (kept : Truth) (old new : Table) : Type 0 where
  pub used : new.used.items ≡ old.used.items
  pub truths : (others : List ℕ) (t : Truth) → known new others ≡ Some t
      → (known old others ≡ Some t) ⊎ ((number 0 old.used.items others ≡ number 0 old.used.items places) × (t ≡ kept))
  pub marks : (n : ℕ) (t : Truth) → IsMarked new n t → IsMarked old n t ⊎ ((n ≡ number 0 old.used.items places) × (t ≡ kept))

-- those of the first n components that are used, with the numbers of their values
pub record AreUsed {V : Type 0} (ranges : List (List V)) (uses : ℕ → Bool) (n : ℕ) (us : List Used) : Type 0 where
  pub each : (u : Used) → Contains us u → (u.component < n) × (u.count ≡ length (slice_index_or ranges u.component []))
  pub all : (k : ℕ) → k < n → uses k ≡ true → (u : Used) × Contains us u × (u.component ≡ k)

-- a table of a conjunct: what is known or marked is so
pub record IsTableOf {V : Type 0} (s : Conjuncts V) (uses : ℕ → ℕ → Bool) (ranges : List (List V)) (c : ℕ) (t : Table) : Type 0 where
  pub used : AreUsed ranges (uses c) (s.due c) t.used.items
  pub few : combinations t.used.items < 2 ^ 64
  pub truths : (places : List ℕ) (u : Truth) → AreWithin ranges places → s.due c ≡ length places → known t places ≡ Some u → s.says c (picked ranges places) u
  pub marks : (places : List ℕ) (u : Truth) → AreWithin ranges places → s.due c ≡ length places → IsMarked t (number 0 t.used.items places) u → s.says c (picked ranges places) u

-- tables of the first n conjuncts, where they have one
pub record AreTables {V : Type 0} (s : Conjuncts V) (uses : ℕ → ℕ → Bool) (ranges : List (List V)) (n : ℕ) (ts : List (Option Table)) : Type 0 where
  pub all : length ts ≡ n
  pub each : (c : ℕ) → c < n → IfSome (slice_index_or ts c None) (IsTableOf s uses ranges c)

-- tables of all conjuncts
abbrev pub AreTrue : {V : Type 0} → Conjuncts V → (ℕ → ℕ → Bool) → List (List V) → List (Option Table) → Type 0
AreTrue s uses ranges ts = AreTables s uses ranges s.number ts
