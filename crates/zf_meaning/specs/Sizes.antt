-- The sizes of given sets and free types: which stated sizes are accepted, what is refused first, and what the sizes then are.
use Rattle.std.specs.Prelude.{◌≡◌, ℕ, ◌<◌, ◌≤◌, List, [], ◌∷◌, ◌++◌, length, map, All, Contains}
use Rattle.zf_meaning.specs.Prelude.{Defined, Definition, free_type, given_set, SET_MAX}
use Rattle.zf_meaning.specs.declared.sizes.Size.{Size}
use Rattle.zf_meaning.specs.declared.sizes.SizeFault.{SizeFault}
use Rattle.zf_meaning.specs.declared.sizes.SizeFault.TheVariants.{NoSize, NotGiven, SizeTwice, SizeTooLarge, OutOfMemory}

-- the name of a given set, before others
abbrev pub with_given : List ℕ → Definition → List (List ℕ) → List (List ℕ)
with_given name (given_set n) names = name ∷ names
with_given name _ names = names

abbrev pub given_sets : List Defined → List (List ℕ)
given_sets [] = []
given_sets (d ∷ g) = with_given d.name d.definition (given_sets g)

abbrev pub names : List Size → List (List ℕ)
names sizes = map (λ s. s.name) sizes

-- ---- what is accepted

-- A size is accepted after the earlier ones: it is that of a given set, none of them is, and it is not too large.
pub record IsAccepted (sets : List (List ℕ)) (earlier : List Size) (size : Size) : Type 0 where
  pub given : Contains sets size.name
  pub first : ¬ (Contains (names earlier) size.name)
  pub small : size.count ≤ SET_MAX

-- Each size is accepted after those before it.
abbrev pub AreAccepted : List (List ℕ) → List Size → Type 0
AreAccepted sets sizes = (earlier : List Size) (size : Size) (later : List Size) → sizes ≡ earlier ++ size ∷ later → IsAccepted sets earlier size

-- All sizes are accepted, and each given set has one.
pub record AreComplete (sets : List (List ℕ)) (sizes : List Size) : Type 0 where
  pub accepted : AreAccepted sets sizes
  pub sized : All (λ set. Contains (names sizes) set) sets

-- ---- what is refused

-- The fault of a size after the earlier ones. Want of memory says nothing.
abbrev pub IsSizeFault : List (List ℕ) → List Size → Size → SizeFault → Type 0
IsSizeFault sets earlier size (NotGiven name) = (name ≡ size.name) × ¬ (Contains sets name)
IsSizeFault sets earlier size (SizeTwice name) = (name ≡ size.name) × Contains sets name × Contains (names earlier) name
IsSizeFault sets earlier size (SizeTooLarge name) = (name ≡ size.name) × Contains sets name × ¬ (Contains (names earlier) name) × (SET_MAX < size.count)
IsSizeFault sets earlier size (NoSize name) = ⊥
IsSizeFault sets earlier size OutOfMemory = Unit {0}

-- The fault is that of the first size that is not accepted.
pub record RefusesSize (sets : List (List ℕ)) (sizes : List Size) (fault : SizeFault) : Type 0 where
  pub earlier : List Size
  pub size : Size
  pub later : List Size
  pub split : sizes ≡ earlier ++ size ∷ later
  pub accepted : AreAccepted sets earlier
  pub refused : IsSizeFault sets earlier size fault

-- All sizes are accepted, and this is the first given set that has none.
pub record LacksSize (sets : List (List ℕ)) (sizes : List Size) (name : List ℕ) : Type 0 where
  pub accepted : AreAccepted sets sizes
  pub earlier : List (List ℕ)
  pub later : List (List ℕ)
  pub split : sets ≡ earlier ++ name ∷ later
  pub sized : All (λ set. Contains (names sizes) set) earlier
  pub lacking : ¬ (Contains (names sizes) name)

-- The first fault of the sizes. Want of memory says nothing.
abbrev pub IsRefusal : List (List ℕ) → List Size → SizeFault → Type 0
IsRefusal sets sizes (NoSize name) = LacksSize sets sizes name
IsRefusal sets sizes OutOfMemory = Unit {0}
IsRefusal sets sizes fault = RefusesSize sets sizes fault

-- ---- the sizes

abbrev pub IsStated : List Size → List ℕ → ℕ → Type 0
IsStated sizes name count = Contains sizes (record { name = name; count = count })

-- the sizes from this definition on, where `later` are those after it: a given set has the size that is stated, a free type as many elements as constructors
abbrev pub AddsSize : List Size → List ℕ → Definition → List ℕ → List ℕ → Type 0
AddsSize stated name (given_set n) later sizes = (count : ℕ) × IsStated stated name count × (sizes ≡ count ∷ later)
AddsSize stated name (free_type n names) later sizes = sizes ≡ length names ∷ later
AddsSize stated name _ later sizes = sizes ≡ later

-- how many elements each given set and free type has, in order of definition
abbrev pub AreSizes : List Size → List Defined → List ℕ → Type 0
AreSizes stated [] sizes = sizes ≡ []
AreSizes stated (d ∷ g) sizes = (later : List ℕ) × AreSizes stated g later × AddsSize stated d.name d.definition later sizes
