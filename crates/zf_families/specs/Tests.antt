-- What the tests of members go by. No public clause rests on this file.
use Rattle.std.specs.Prelude.{◌≡◌, Bool, true, ◌&&◌, List, [], ◌∷◌}
use Rattle.std.specs.Ordering.{is_lt}
use Rattle.zf_value.specs.declared.plain.Value.{Value, out-Value}
use Rattle.zf_value.specs.declared.plain.Value.TheOpen.{Value-F}
use Rattle.zf_tree.specs.declared.symbol.Arrow.{Arrow}
use Rattle.zf_value.specs.{IsBetween, IsMember, pair, value_order}
use Rattle.zf_families.specs.Families.{IsOfKind}
use Rattle.zf_families.specs.Selections.{fits_apart}

-- a pair of members of the two sets
unfoldable pub IsPairFrom : List Value → List Value → Value → Type 0
IsPairFrom a b z = (x y : Value) × (z ≡ pair x y) × IsMember x a × IsMember y b

-- a pair of this value and a member of the set
unfoldable pub IsPairOn : Value → List Value → Value → Type 0
IsPairOn x b z = (y : Value) × (z ≡ pair x y) × IsMember y b

-- each of the one takes the member at its place to a member of b
abbrev pub IsGraph : List Value → List Value → List Value → Type 0
IsGraph b [] [] = Unit {0}
IsGraph b [] (z ∷ r) = ⊥
IsGraph b (x ∷ a) [] = ⊥
IsGraph b (x ∷ a) (z ∷ r) = IsPairOn x b z × IsGraph b a r

-- the first of a pair; of what is no pair, that itself
abbrev pub first_at : Value → Value-F Value → Value
first_at v (Value-F.Tuple (x ∷ y ∷ [])) = x
first_at v _ = v

abbrev pub first : Value → Value
first v = first_at v (out-Value v)

-- each has a greater first than the one before it
abbrev pub firsts_rise : List Value → Bool
firsts_rise [] = true
firsts_rise (z ∷ []) = true
firsts_rise (z ∷ w ∷ r) = is_lt (value_order (first z) (first w)) && firsts_rise (w ∷ r)

-- no two have one second
abbrev pub seconds_apart : List Value → Bool
seconds_apart [] = true
seconds_apart (z ∷ r) = fits_apart z r && seconds_apart r

-- a relation of this kind between two sets, by its pairs
unfoldable pub IsArrowFrom : Arrow → List Value → List Value → List Value → Type 0
IsArrowFrom kind a b r = IsBetween a b r × IsOfKind kind a r
