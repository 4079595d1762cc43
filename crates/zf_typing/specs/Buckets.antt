-- Where bound variables are found: each in the bucket of its name, after those of the bucket that were bound before it.
use Rattle.std.specs.Prelude.{◌≡◌, ◌⊎◌, ℕ, zero, suc, ◌+◌, ◌*◌, ◌%◌, ◌<◌, ◌==◌, if◌then◌else◌, List, [], ◌∷◌, get_or, length, take}
use Rattle.zf_typing.specs.declared.index.Chained.{Chained}

abbrev pub bucket_from : ℕ → List ℕ → ℕ
bucket_from h [] = h
bucket_from h (b ∷ bs) = bucket_from ((h * 31 + b) % 4096) bs

-- the bucket of a name
unfoldable pub bucket : List ℕ → ℕ
bucket name = bucket_from 0 name

abbrev pub before : ℕ → ℕ → List ℕ → ℕ
before zero b name = if b == bucket name then 1 else 0
before (suc p) b name = suc (suc p)

-- one more than the place of the last variable of the bucket; 0 where there is none
abbrev pub last_in : ℕ → List Chained → ℕ
last_in b [] = 0
last_in b (c ∷ cs) = before (last_in b cs) b c.variable.name

-- the buckets and the chain of each lead to all variables
unfoldable pub IsIndexed : List Chained → List ℕ → Type 0
IsIndexed cs heads =
    (((cs ≡ []) × (heads ≡ [])) ⊎ (length heads ≡ 4096))
    × ((b : ℕ) → b < length heads → get_or heads b 0 ≡ last_in b cs)
    × ((i : ℕ) (d : Chained) → i < length cs → (get_or cs i d).previous ≡ last_in (bucket (get_or cs i d).variable.name) (take i cs))

-- buckets that were there, or as many as are wanted, without variables
unfoldable pub AreHeads : List ℕ → List ℕ → Type 0
AreHeads old new = ((length old ≡ 0) × (length new ≡ 4096) × ((b : ℕ) → b < 4096 → get_or new b 0 ≡ 0)) ⊎ ((0 < length old) × (new ≡ old))
