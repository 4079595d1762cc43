-- Truth in three values: atoms, connectives and quantifiers, with no order among their parts.
use Rattle.std.specs.Prelude.{◌≡◌, ◌⊎◌, List, Option, Some, None}
use Rattle.zf_outcome.specs.Prelude.{Connective, Quantifier, Relation, Infinite, Value, Outcome, Truth, True, False, Out, AreFrom}
use Rattle.zf_tree.specs.declared.symbol.Connective.TheVariants as connective
use Rattle.zf_tree.specs.declared.symbol.Quantifier.TheVariants as quantifier
use Rattle.zf_value.specs.declared.value.Outcome.TheVariants as outcome
use Rattle.zf_outcome.specs.Outcomes.{Several, values, one_undefined, one_out}
use Rattle.zf_outcome.specs.Symbols.{Holds, HoldsOf}

-- ---- atoms

-- t is the truth of a fact
abbrev pub Tells : Type 0 → Truth → Type 0
Tells fact True = fact
Tells fact False = fact → ⊥
Tells fact Out = ⊥

-- out where a side is out, else false where a side is undefined
abbrev pub IsAtom : Outcome → Outcome → (Value → Value → Type 0) → Truth → Type 0
IsAtom (outcome.Is v) (outcome.Is w) holds t = Tells (holds v w) t
IsAtom outcome.Out y holds t = t ≡ Out
IsAtom x outcome.Out holds t = t ≡ Out
IsAtom x y holds t = t ≡ False

-- the same of one side
abbrev pub IsTest : Outcome → (Value → Type 0) → Truth → Type 0
IsTest outcome.Out holds t = t ≡ Out
IsTest outcome.Undefined holds t = t ≡ False
IsTest (outcome.Is v) holds t = Tells (holds v) t

-- the truth of a link between two outcomes, where the right one may be an infinite set instead
abbrev pub IsLink : Option Infinite → Relation → Outcome → Outcome → Truth → Type 0
IsLink None r x y t = IsAtom x y (Holds r) t
IsLink (Some s) r x y t = IsTest x (HoldsOf s r) t

-- ---- connectives

abbrev pub opposite : Truth → Truth
opposite True = False
opposite False = True
opposite Out = Out

-- below `left` and `right` say of a truth that it is that side's

-- false if a side is false, else out if a side is out, else true
abbrev pub IsConjunction : (Truth → Type 0) → (Truth → Type 0) → Truth → Type 0
IsConjunction left right True = left True × right True
IsConjunction left right False = left False ⊎ right False
IsConjunction left right Out = (left Out × (right True ⊎ right Out)) ⊎ (left True × right Out)

-- true if a side is true, else out if a side is out, else false
abbrev pub IsDisjunction : (Truth → Type 0) → (Truth → Type 0) → Truth → Type 0
IsDisjunction left right True = left True ⊎ right True
IsDisjunction left right False = left False × right False
IsDisjunction left right Out = (left Out × (right False ⊎ right Out)) ⊎ (left False × right Out)

-- the disjunction of the left side's opposite and the right side
abbrev pub IsImplication : (Truth → Type 0) → (Truth → Type 0) → Truth → Type 0
IsImplication left right t = IsDisjunction (λ p. left (opposite p)) right t

-- out if a side is out, else true where both agree
abbrev pub IsEquivalence : (Truth → Type 0) → (Truth → Type 0) → Truth → Type 0
IsEquivalence left right True = (left True × right True) ⊎ (left False × right False)
IsEquivalence left right False = (left True × right False) ⊎ (left False × right True)
IsEquivalence left right Out = left Out ⊎ right Out

abbrev pub IsConnected : Connective → (Truth → Type 0) → (Truth → Type 0) → Truth → Type 0
IsConnected connective.And = IsConjunction
IsConnected connective.Or = IsDisjunction
IsConnected connective.Implies = IsImplication
IsConnected connective.Iff = IsEquivalence

-- ---- quantifiers, over the rows that `rows` admits, where `truth vs u` says that u is the truth of the row vs

abbrev pub IsForAll : (List Value → Type 0) → (List Value → Truth → Type 0) → Truth → Type 0
IsForAll rows truth True = (vs : List Value) → rows vs → truth vs True
IsForAll rows truth False = (vs : List Value) × rows vs × truth vs False
IsForAll rows truth Out = ((vs : List Value) × rows vs × truth vs Out) × ((vs : List Value) → rows vs → truth vs True ⊎ truth vs Out)

abbrev pub IsExists : (List Value → Type 0) → (List Value → Truth → Type 0) → Truth → Type 0
IsExists rows truth True = (vs : List Value) × rows vs × truth vs True
IsExists rows truth False = (vs : List Value) → rows vs → truth vs False
IsExists rows truth Out = ((vs : List Value) × rows vs × truth vs Out) × ((vs : List Value) → rows vs → truth vs False ⊎ truth vs Out)

abbrev pub HasTwo : (List Value → Type 0) → (List Value → Truth → Type 0) → Type 0
HasTwo rows truth = (vs ws : List Value) × rows vs × rows ws × truth vs True × truth ws True × (vs ≡ ws → ⊥)

abbrev pub IsExistsOne : (List Value → Type 0) → (List Value → Truth → Type 0) → Truth → Type 0
IsExistsOne rows truth True = (vs : List Value) × rows vs × truth vs True × ((ws : List Value) → rows ws → (vs ≡ ws) ⊎ truth ws False)
IsExistsOne rows truth False = HasTwo rows truth ⊎ ((vs : List Value) → rows vs → truth vs False)
IsExistsOne rows truth Out = ((vs : List Value) × rows vs × truth vs Out) × (HasTwo rows truth → ⊥)

abbrev pub IsOver : Quantifier → (List Value → Type 0) → (List Value → Truth → Type 0) → Truth → Type 0
IsOver quantifier.ForAll = IsForAll
IsOver quantifier.Exists = IsExists
IsOver quantifier.ExistsOne = IsExistsOne

-- what a quantifier tells of a row, by the truths of its constraint and its body
abbrev pub IsTold : Quantifier → (Truth → Type 0) → (Truth → Type 0) → Truth → Type 0
IsTold quantifier.ForAll = IsImplication
IsTold quantifier.Exists = IsConjunction
IsTold quantifier.ExistsOne = IsConjunction

-- over the rows of ranges: out where a range is out, else over no row where one is undefined
abbrev pub IsQuantified : Quantifier → Several → (List Value → Truth → Type 0) → Truth → Type 0
IsQuantified q one_out truth t = t ≡ Out
IsQuantified q one_undefined truth t = IsOver q (λ vs. ⊥) truth t
IsQuantified q (values ss) truth t = IsOver q (λ vs. AreFrom vs ss) truth t
