-- Which components the lines of `show` have: those that a text names, parted by commas, or all.
use Rattle.std.specs.Prelude.{◌≡◌, ◌≢◌, ℕ, ◌-◌, ◌==◌, Bool, List, length, take, drop, map, Option, Some, None, option_map, AllPairs}
use Rattle.zf_answers.specs.Prelude.{prefix_len, slice_split, suffix_len, Comp, first_named, comps_at}
use Rattle.std.specs.Char.{is_ascii_whitespace}

-- a text without the blanks round it
abbrev pub without_start : List ℕ → List ℕ
without_start text = drop (prefix_len is_ascii_whitespace text) text

abbrev pub without_end : List ℕ → List ℕ
without_end text = take (length text - suffix_len is_ascii_whitespace text) text

abbrev pub trimmed : List ℕ → List ℕ
trimmed text = without_end (without_start text)

-- the comma, which is the byte 44
abbrev pub is_comma : ℕ → Bool
is_comma b = b == 44

-- what stands between commas, without the blanks round it
abbrev pub names_between : List ℕ → List (List ℕ)
names_between text = map trimmed (slice_split is_comma text)

abbrev pub component_place : List Comp → (name : List ℕ) → Option ℕ
component_place comps name = option_map (λ p. p.0) (first_named (λ c. c.name) name comps)

-- the text names the components at these places, none twice
pub record NamesParts (comps : List Comp) (text : List ℕ) (places : List ℕ) : Type 0 where
  pub named : map (component_place comps) (names_between text) ≡ map Some places
  pub once : AllPairs (λ i j. i ≢ j) places

-- the components that a line has, in its order
abbrev pub AreShown : List Comp → (only : Option (List ℕ)) → (shown : List Comp) → Type 0
AreShown comps None shown = shown ≡ comps
AreShown comps (Some text) shown = (places : List ℕ) × NamesParts comps text places × (shown ≡ comps_at comps places)

-- a text is given that names no components
abbrev pub NamesNoParts : List Comp → (only : Option (List ℕ)) → Type 0
NamesNoParts comps None = ⊥
NamesNoParts comps (Some text) = (places : List ℕ) → NamesParts comps text places → ⊥

-- ---- one name after another
