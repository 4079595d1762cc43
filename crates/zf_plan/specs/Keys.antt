-- Keys of the values of components: for private contracts and the model of `Search` alone.
use Rattle.std.specs.Prelude.{◌≡◌, ℕ, ◌+◌, ◌<◌, List, [], Some, slice_get, slice_index_or}
use Rattle.zf_plan.specs.Prelude.{Conjuncts}

-- the numbers are keys of the values, place by place
abbrev pub AreKeys : {V : Type 0} → (V → ℕ → Type 0) → List V → List ℕ → Type 0
AreKeys {V} is_key range keys = (i n : ℕ) (v : V) → slice_get range i ≡ Some v → slice_get keys i ≡ Some n → is_key v n

-- for each leaf they are keys of values of the last component that it needs
abbrev pub AreKeyed : {V : Type 0} → Conjuncts V → (ℕ → V → ℕ → Type 0) → List (List V) → List (List ℕ) → Type 0
AreKeyed l is_key ranges keys = (c k : ℕ) → c < l.number → l.due c ≡ k + 1 → AreKeys (is_key c) (slice_index_or ranges k []) (slice_index_or keys c [])
