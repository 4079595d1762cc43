-- How many rows and injections there are. No public clause rests on this file.
use Rattle.std.specs.Prelude.{ℕ, zero, suc, ◌+◌, ◌-◌, ◌*◌, ◌^◌, min, List, [], ◌∷◌, length}
use Rattle.zf_tree.specs.declared.symbol.Arrow.{Arrow}
use Rattle.zf_tree.specs.declared.symbol.Arrow.TheVariants.{Relation, PartialFunction, TotalFunction, PartialInjection, TotalInjection}
use Rattle.zf_value.specs.declared.plain.Value.{Value}
use Rattle.zf_value.specs.declared.TheConstants.{SET_MAX}

-- the sizes of these layers, each counted as is said, multiplied
abbrev pub sizes : (ℕ → ℕ) → List (List Value) → ℕ
sizes more [] = 1
sizes more (l ∷ ls) = more (length l) * sizes more ls

-- n, n - 1, .. as often as is said, multiplied
abbrev pub falling : ℕ → ℕ → ℕ
falling n zero = 1
falling n (suc k) = n * falling (n - 1) k

-- how many partial injections go from k to n
abbrev pub partial_injection_count : ℕ → ℕ → ℕ
partial_injection_count zero n = 1
partial_injection_count (suc k) n = partial_injection_count k n + n * partial_injection_count k (n - 1)

-- how many there are of each kind from k to n
abbrev pub arrow_count : Arrow → ℕ → ℕ → ℕ
arrow_count Relation k n = 2 ^ (k * n)
arrow_count PartialFunction k n = (n + 1) ^ k
arrow_count TotalFunction k n = n ^ k
arrow_count PartialInjection k n = partial_injection_count k n
arrow_count TotalInjection k n = falling n k

-- where these are the counts of partial injections from k to n, n - 1, .. those from k + 1, each cut
abbrev pub stepped : ℕ → List ℕ → List ℕ
stepped n [] = []
stepped n (c ∷ []) = c ∷ []
stepped n (c ∷ d ∷ cs) = min (c + min (d * n) (SET_MAX + 1)) (SET_MAX + 1) ∷ stepped (n - 1) (d ∷ cs)
