-- What the steps of the operations say. No public clause rests on this file.
use Rattle.std.specs.Prelude.{◌≡◌, ◌⊎◌, ◌↔◌, ℤ, Vec, List, [], ◌∷◌, Option, MatchOption}
use Rattle.std.specs.declared.cmp.Ordering.{Ordering}
use Rattle.std.specs.declared.cmp.Ordering.TheVariants.{Less, Greater}
use Rattle.zf_value.specs.declared.part.Keep.{Keep}
use Rattle.zf_value.specs.declared.part.Keep.TheVariants.{Members, Others}
use Rattle.zf_value.specs.declared.part.Part.{Part}
use Rattle.zf_value.specs.declared.part.Part.TheVariants.{Whole, First, Second}
use Rattle.zf_value.specs.declared.plain.Value.{Value, out-Value}
use Rattle.zf_value.specs.declared.plain.Value.TheOpen.{Value-F}
use Rattle.zf_value.specs.Operations.{pair, Relates}
use Rattle.zf_value.specs.Sets.{IsMember, IsAscending, value_order}
use Rattle.zf_value.specs.Numbers.{IsBetweenNumbers}
use Rattle.std.specs.declared.alloc.Global.{Global}
use denote.Ref.{Bor}

-- the values that pass are w alone, or none
unfoldable pub GivesJust : (Value → Type 0) → Option (Bor Value) → Type 0
GivesJust P r = MatchOption r ((v : Value) → P v → ⊥) (λ w. (v : Value) → P v ↔ (w.now ≡ v))

-- the members of `out` are what the members of `xs` give
unfoldable pub IsGathered : (Value → Value → Type 0) → List Value → List Value → Type 0
IsGathered G xs out = (w : Value) → IsMember w out ↔ ((z : Value) × IsMember z xs × G z w)

-- the members of `out` are those of both lists
unfoldable pub IsJoined : List Value → List Value → List Value → Type 0
IsJoined a b out = (w : Value) → IsMember w out ↔ (IsMember w a ⊎ IsMember w b)

-- the list is ascending, and has the numbers from the one to the other
pub record ListsNumbers (a b : ℤ) (v : Vec Value Global) : Type 0 where
  pub ascending : IsAscending v.items
  pub members : (z : Value) → IsMember z v.items ↔ IsBetweenNumbers a b z

-- ---- parts of members

abbrev pub IsPartOf : Part → Value → Value → Type 0
IsPartOf Whole z p = z ≡ p
IsPartOf First z p = (y : Value) × (z ≡ pair p y)
IsPartOf Second z p = (x : Value) × (z ≡ pair x p)

abbrev pub IsKept : Keep → List Value → Value → Type 0
IsKept Members xs p = IsMember p xs
IsKept Others xs p = IsMember p xs → ⊥

-- w is the given part of z, and the tested part is kept
abbrev pub IsSelected : Part → Keep → List Value → Part → Value → Value → Type 0
IsSelected test keep set given z w = (p : Value) × IsPartOf test z p × IsKept keep set p × IsPartOf given z w

-- ---- where the tuples that begin with a value stand

abbrev pub place_of_first : Value → List Value → Ordering
place_of_first x [] = Less
place_of_first x (y ∷ ys) = value_order y x

abbrev pub place_at : Value → Value-F Value → Ordering
place_at x (Value-F.Int n) = Less
place_at x (Value-F.Elem t i) = Less
place_at x (Value-F.Tuple ys) = place_of_first x ys
place_at x (Value-F.SetOf ys) = Greater

-- whether z stands before the tuples that begin with x, is one of them, or stands after them
abbrev pub place_beside : Value → Value → Ordering
place_beside x z = place_at x (out-Value z)

-- the pairs of the relation that begin with x are those of the list, and the list has no others
pub record AreRelated (r : List Value) (x : Value) (ys : List Value) : Type 0 where
  pub ascending : IsAscending ys
  pub first : (u y : Value) → Relates ys u y → u ≡ x
  pub same : (y : Value) → Relates ys x y ↔ Relates r x y

-- the members of `new` are those of `old`, and x with each second of the pairs
unfoldable pub AddsPairs : Value → List Value → List Value → List Value → Type 0
AddsPairs x pairs old new = (w : Value) → IsMember w new ↔ (IsMember w old ⊎ ((u y : Value) × Relates pairs u y × (w ≡ pair x y)))
