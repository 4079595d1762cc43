-- When spellings are clear: each is that of one element, and it is seen where it ends.
use Rattle.std.specs.Prelude.{◌≡◌, ℕ, ◌^◌, ◌<◌, ◌≤◌, true, List, [], ◌∷◌, length, Some, slice_get}
use Rattle.std.specs.List.{list_all}
use Rattle.zf_print.specs.Words.{is_in_name}
use Rattle.zf_print.specs.declared.spelling.Spelling.{Spelling}
use Rattle.zf_print.specs.declared.spelling.Spelling.TheVariants.{Numbered, Named}

abbrev pub IsName : List ℕ → Type 0
IsName name = (0 < length name) × (list_all is_in_name name ≡ true)

abbrev pub AreNames : List (List ℕ) → Type 0
AreNames [] = Unit {0}
AreNames (n ∷ names) = IsName n × AreNames names

abbrev pub IsNoneOf : List (List ℕ) → List ℕ → Type 0
IsNoneOf [] name = Unit {0}
IsNoneOf (n ∷ names) name = ¬ (n ≡ name) × IsNoneOf names name

-- no two are the same
abbrev pub AreApart : List (List ℕ) → Type 0
AreApart [] = Unit {0}
AreApart (n ∷ names) = IsNoneOf names n × AreApart names

-- so many elements have spellings, of which no two are the same
abbrev pub IsClear : Spelling → ℕ → Type 0
IsClear (Numbered name) k = IsName name × (k < 2 ^ 64)
IsClear (Named constructors) k = AreNames constructors × AreApart constructors × (k ≤ length constructors)

-- the types of so many elements each have clear spellings; the number of an element's type has 32 bits
pub record AreClear (ss : List Spelling) (sizes : List ℕ) : Type 0 where
  pub numbers : length sizes ≤ 2 ^ 32
  pub spelled : (n k : ℕ) → slice_get sizes n ≡ Some k → (s : Spelling) × (slice_get ss n ≡ Some s) × IsClear s k
