-- Rows that take an item of each of some layers. No public clause rests on this file.
use Rattle.std.specs.Prelude.{Bool, true, not, List, [], ◌∷◌, ◌++◌, map, filter}
use Rattle.std.specs.List.{flat_map, list_all}
use Rattle.std.specs.Ordering.{is_eq}
use Rattle.zf_tree.specs.declared.symbol.Arrow.{Arrow}
use Rattle.zf_tree.specs.declared.symbol.Arrow.TheVariants.{Relation, PartialFunction, TotalFunction, PartialInjection, TotalInjection}
use Rattle.zf_value.specs.declared.plain.Value.{Value, SetOf, out-Value}
use Rattle.zf_value.specs.declared.plain.Value.TheOpen.{Value-F}
use Rattle.zf_value.specs.{IsAscending, pair, value_order}
use Rattle.zf_families.specs.declared.rows.Fits.{Fits}
use Rattle.zf_families.specs.declared.rows.Fits.TheVariants.{Any, Apart}

-- p before each of the rows that it fits
abbrev pub extended : (Value → List Value → Bool) → List (List Value) → Value → List (List Value)
extended fits rows p = map (λ r. p ∷ r) (filter (fits p) rows)

-- each item of the layer before each of the rows that it fits
abbrev pub extensions : (Value → List Value → Bool) → List Value → List (List Value) → List (List Value)
extensions fits layer rows = flat_map (extended fits rows) layer

-- the rows that take one item of each layer
abbrev pub whole : (Value → List Value → Bool) → List (List Value) → List (List Value)
whole fits [] = [] ∷ []
whole fits (l ∷ ls) = extensions fits l (whole fits ls)

-- the rows that take at most one item of each layer, and some
abbrev pub some : (Value → List Value → Bool) → List (List Value) → List (List Value)
some fits [] = []
some fits (l ∷ ls) = extensions fits l ([] ∷ some fits ls) ++ some fits ls

-- each item fits each row
abbrev pub fits_any : Value → List Value → Bool
fits_any p r = true

-- the layers of a power set: a member may be taken
abbrev pub singles : List Value → List (List Value)
singles a = map (λ x. x ∷ []) a

-- the layers of functions: a member of the one and a member of the other make a pair
abbrev pub pairs : List Value → Value → List Value
pairs b x = map (pair x) b

-- the second of a pair; of what is no pair, that itself
abbrev pub second_at : Value → Value-F Value → Value
second_at v (Value-F.Tuple (x ∷ y ∷ [])) = y
second_at v _ = v

abbrev pub second : Value → Value
second v = second_at v (out-Value v)

-- the second of p is that of no item of the row
abbrev pub fits_apart : Value → List Value → Bool
fits_apart p r = list_all (λ q. not (is_eq (value_order (second p) (second q)))) r

abbrev pub fitting : Fits → Value → List Value → Bool
fitting Any = fits_any
fitting Apart = fits_apart

-- the rows of pairs that are relations of each kind
abbrev pub arrow_rows : Arrow → List Value → List Value → List (List Value)
arrow_rows Relation a b = [] ∷ some fits_any (singles (flat_map (pairs b) a))
arrow_rows PartialFunction a b = [] ∷ some fits_any (map (pairs b) a)
arrow_rows TotalFunction a b = whole fits_any (map (pairs b) a)
arrow_rows PartialInjection a b = [] ∷ some fits_apart (map (pairs b) a)
arrow_rows TotalInjection a b = whole fits_apart (map (pairs b) a)

-- each row ascends
abbrev pub AllAscend : List (List Value) → Type 0
AllAscend [] = Unit {0}
AllAscend (r ∷ rs) = IsAscending r × AllAscend rs

-- the rows are the members of sets, and these sets ascend
abbrev pub AreSets : List (List Value) → Type 0
AreSets rows = AllAscend rows × IsAscending (map SetOf rows)
