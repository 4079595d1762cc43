-- What is counted where each conjunct is a leaf and nothing is left out: for private contracts and the model of `Search` alone.
use Rattle.std.specs.Prelude.{◌≡◌, ℕ, Bool, true, false, List, [], ◌∷◌, slice_index_or, Option, None, Result, Ok, Err}
use Rattle.zf_plan.specs.Prelude.{Ordering, Truth, True, False, Out, Conjuncts, cut, IsCount, IsWalked, picked, under, unseen}
use Rattle.zf_plan.specs.Trees.{Tree, IsFlat}
use Rattle.zf_plan.specs.Places.{bound, seen_at}
use Rattle.zf_plan.specs.declared.place.Place.{Place}
use Rattle.zf_plan.specs.declared.plan.Plan.{Plan}

-- Each conjunct is a leaf, and no component is narrowed or sifted.
pub record IsPlain {V : Type 0} (l : Conjuncts V) (trees : List Tree) (planned : Plan) : Type 0 where
  pub flat : IsFlat l.number trees
  pub plain : planned.is_plain ≡ true

-- which rows that begin with a given one are ahead, by what they have after it: all, those that go on, or none
abbrev pub all_of : {V : Type 0} → List V → Bool
all_of tail = true

abbrev pub below_it : {V : Type 0} → List V → Bool
below_it [] = false
below_it (v ∷ tail) = true

abbrev pub none_of : {V : Type 0} → List V → Bool
none_of tail = false

-- a pair that is tested, on a row that is not ahead
abbrev pub IsPassed : {V : Type 0} → (V → V → Ordering) → Conjuncts V → List (List V) → Option (List V) → List V → (List V → Bool) → List V × ℕ → Type 0
IsPassed cmp l ranges after road ahead pair = IsWalked cmp l ranges after pair × (under cmp road ahead pair.0 ≡ false)

-- so many tests were counted as there are such pairs
abbrev pub Counts : {V : Type 0} → (V → V → Ordering) → Conjuncts V → List (List V) → Option (List V) → List V → (List V → Bool) → ℕ → Type 0
Counts cmp l ranges after road ahead tests = (number : ℕ) × IsCount (IsPassed cmp l ranges after road ahead) number × (tests ≡ cut number)

-- a test of a row counts its tests, unless it is refused: the rows that begin with it are passed, or those that go on are ahead
abbrev pub CountsFound : {V : Type 0} → (V → V → Ordering) → Conjuncts V → List (List V) → Option (List V) → List V → Truth → ℕ → Type 0
CountsFound cmp l ranges after road False tests = Counts cmp l ranges after road none_of tests
CountsFound cmp l ranges after road True tests = Counts cmp l ranges after road below_it tests
CountsFound cmp l ranges after road Out tests = Counts cmp l ranges after road below_it tests

abbrev pub CountsOn : {V E : Type 0} → (V → V → Ordering) → Conjuncts V → List (List V) → Option (List V) → List V → Result Truth E → ℕ → Type 0
CountsOn cmp l ranges after road (Err e) tests = Counts cmp l ranges after road all_of tests
CountsOn cmp l ranges after road (Ok t) tests = CountsFound cmp l ranges after road t tests

-- what is counted at a place, where all values of each range are tried and nothing is known of them
pub record IsCounted {V : Type 0} (cmp : V → V → Ordering) (l : Conjuncts V) (ranges : List (List V)) (after : Option (List V)) (p : Place) (tests : ℕ) (choices : List (Option (List ℕ))) : Type 0 where
  pub counts : Counts cmp l ranges after (picked ranges (bound p)) (λ tail. p.fresh) tests
  pub whole : (k : ℕ) → slice_index_or choices k None ≡ None
  pub unseen : (k : ℕ) → seen_at p k ≡ unseen
