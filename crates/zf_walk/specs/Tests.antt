-- The tests of a walk: pairs of a row of the first ranges and a conjunct that is due there.
use Rattle.std.specs.Prelude.{◌≡◌, ◌≢◌, ◌↔◌, ℕ, ◌-◌, ◌<◌, ◌^◌, min, List, length, take, Option, Contains, AllPairs, IfSome}
use Rattle.std.specs.declared.cmp.Ordering.{Ordering}
use Rattle.std.specs.declared.cmp.Ordering.TheVariants.{Less, Greater}
use Rattle.std.specs.Cmp.Lexicographic.{slice_cmp}
use Rattle.zf_walk.specs.declared.judge.Truth.TheVariants.{False}
use Rattle.zf_walk.specs.Conjuncts.{Conjuncts}
use Rattle.zf_walk.specs.Rows.{IsFrontOf, ComesAfter}

-- no conjunct that needs fewer values than the row has is False on it
pub record IsCandidate {V : Type 0} (s : Conjuncts V) (ranges : List (List V)) (row : List V) : Type 0 where
  pub front : IsFrontOf ranges row
  pub kept : (d : ℕ) → d < s.number → s.due d < length row → s.says d row False → ⊥

-- a conjunct that is due at a candidate
pub record IsDueTest {V : Type 0} (s : Conjuncts V) (ranges : List (List V)) (pair : List V × ℕ) : Type 0 where
  pub candidate : IsCandidate s ranges pair.0
  pub conjunct : pair.1 < s.number
  pub due : s.due pair.1 ≡ length pair.0

-- the row is not less than as many first values of the named one; where it has all n values it is greater
abbrev pub IsReached : {V : Type 0} → (V → V → Ordering) → Option (List V) → ℕ → List V → Type 0
IsReached cmp after n row = IfSome after (λ named. (slice_cmp cmp (take (length row) named) row ≢ Greater) × (length row ≡ n → ComesAfter cmp named row))

-- a pair that is tested: no conjunct before it that is due at the row too is False there
pub record IsWalked {V : Type 0} (cmp : V → V → Ordering) (s : Conjuncts V) (ranges : List (List V)) (after : Option (List V)) (pair : List V × ℕ) : Type 0 where
  pub is_pair : IsDueTest s ranges pair
  pub first : (d : ℕ) → d < pair.1 → s.due d ≡ length pair.0 → s.says d pair.0 False → ⊥
  pub reached : IsReached cmp after (length ranges) pair.0

-- the row is not greater than as many first values of the whole row, if there is one
abbrev pub IsUpTo : {V : Type 0} → (V → V → Ordering) → Option (List V) → List V → Type 0
IsUpTo cmp last row = IfSome last (λ whole. slice_cmp cmp (take (length row) whole) row ≢ Less)

pub record IsCount {V : Type 0} (P : List V × ℕ → Type 0) (number : ℕ) : Type 0 where
  pub pairs : List (List V × ℕ)
  pub distinct : AllPairs (λ p q. p ≢ q) pairs
  pub members : (pair : List V × ℕ) → Contains pairs pair ↔ P pair
  pub is : number ≡ length pairs

-- the number of pairs that are tested up to a whole row, or up to the end
abbrev pub IsNumberOfTests : {V : Type 0} → (V → V → Ordering) → Conjuncts V → List (List V) → Option (List V) → Option (List V) → ℕ → Type 0
IsNumberOfTests cmp s ranges after whole = IsCount (λ pair. IsWalked cmp s ranges after pair × IsUpTo cmp whole pair.0)

-- a number, or the greatest of 64 bits
abbrev pub cut : ℕ → ℕ
cut number = min number (2 ^ 64 - 1)
