-- Sets that are described by what they are made of, so that they can be tested for members without being built.
use Rattle.std.specs.Prelude.{◌≡◌, Bool, true, false}
use Rattle.zf_outcome.specs.Prelude.{Relation, Value, Outcome, Truth, True, False, IsCross, IsInterval, IsMember, IsPower, members}
use Rattle.zf_tree.specs.declared.symbol.Relation.TheVariants.{NotMember}
use Rattle.zf_families.specs.{AreArrows}
use Rattle.zf_value.specs.declared.value.Outcome.TheVariants.{Is, Out}
use Rattle.zf_outcome.specs.declared.described.Described.{Described}
use Rattle.zf_outcome.specs.declared.described.Described.TheVariants.{Plain, Power, Arrows, Interval, Product}
use Rattle.zf_outcome.specs.Found.{found_outcome}
use Rattle.zf_outcome.specs.Symbols.{Holds}
use Rattle.zf_outcome.specs.Truths.{IsAtom}

-- o is the outcome that is described
abbrev pub IsDescribed : Described → Outcome → Type 0
IsDescribed (Plain found) o = o ≡ found_outcome found
IsDescribed (Power v) o = IsPower (members v) o
IsDescribed (Arrows kind v w) o = AreArrows kind (members v) (members w) o
IsDescribed (Interval a b) o = IsInterval a b o
IsDescribed (Product sets) o = IsCross sets.items o

-- v is a member of the set that is described
unfoldable pub IsInDescribed : Described → Value → Type 0
IsInDescribed d v = (w : Value) × IsDescribed d (Is w) × IsMember v (members w)

-- it has an outcome, and is not out
abbrev pub IsWithin : Described → Type 0
IsWithin d = (o : Outcome) × IsDescribed d o × (IsDescribed d Out → ⊥)

-- it is not there as a value
abbrev pub IsUnbuilt : Described → Type 0
IsUnbuilt (Plain found) = ⊥
IsUnbuilt (Power v) = Unit {0}
IsUnbuilt (Arrows kind v w) = Unit {0}
IsUnbuilt (Interval a b) = Unit {0}
IsUnbuilt (Product sets) = Unit {0}

-- whichever outcome is described, it is one of which S says so
unfoldable pub Describes : (Outcome → Type 0) → Described → Type 0
Describes S d = (o : Outcome) → IsDescribed d o → S o

-- t is the truth of the relation between the outcome and a set of which S says what it is
unfoldable pub IsTruthIn : (Outcome → Type 0) → Relation → Outcome → Truth → Type 0
IsTruthIn S r x t = (y : Outcome) × S y × IsAtom x y (Holds r) t

-- the truth of a membership, by whether the value is a member
abbrev pub told_in : Relation → Bool → Truth
told_in NotMember true = False
told_in NotMember false = True
told_in _ true = True
told_in _ false = False
