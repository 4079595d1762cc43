-- What is reported of a relation that names held components alone: what its operands come to.
use Rattle.std.specs.Prelude.{◌≡◌, ℕ, Bool, true, false, cond, List, [], ◌∷◌, Option, Some, None, slice_get}
use Rattle.zf_tree.specs.declared.span.Span.{Span}
use Rattle.zf_tree.specs.declared.symbol.Relation.{Relation}
use Rattle.zf_tree.specs.declared.symbol.Relation.TheVariants.{Member, NotMember, Subset, ProperSubset}
use Rattle.zf_why.specs.Prelude.{Reference, bracket, chain, link, no_links, references, ResolvedLinks, ResolvedTree, term_span, Value, Environment, HasOutcome, in_row}
use Rattle.zf_reference.specs.declared.reference.Reference.TheVariants.{Component, Local, Global}
use Rattle.zf_value.specs.declared.value.Outcome.{Outcome}
use Rattle.zf_value.specs.declared.value.Outcome.TheVariants.{Out}
use Rattle.zf_why.specs.declared.told.Operand.{Operand}
use Rattle.zf_why.specs.declared.told.Operand.TheVariants.{Comes, Stands}
use Rattle.zf_why.specs.declared.told.Operands.{Operands}

-- ---- relations

pub record Related : Type 0 where
  pub left : ResolvedTree
  pub relation : Relation
  pub right : ResolvedTree

-- a chain of two, if it is one
abbrev pub of_two : ResolvedTree → ResolvedLinks → Option Related
of_two t no_links = None
of_two t (link r u no_links) = Some (record { left = t; relation = r; right = u })
of_two t (link r u (link q w ks)) = None

-- a relation of two operands, within brackets or without
abbrev pub relation_of : ResolvedTree → Option Related
relation_of (bracket l t) = relation_of t
relation_of (chain l t ks) = of_two t ks
relation_of _ = None

-- its right operand is only tested: for a member, or for a subset
abbrev pub is_tested : Relation → Bool
is_tested Member = true
is_tested NotMember = true
is_tested Subset = true
is_tested ProperSubset = true
is_tested _ = false

-- ---- what is held

abbrev pub is_value : Option (Option Value) → Bool
is_value None = false
is_value (Some None) = false
is_value (Some (Some v)) = true

-- the name is not of a component, or of one of which a value is held
abbrev pub is_held : (held : List (Option Value)) → Reference → Bool
is_held held (Component i) = is_value (slice_get held i)
is_held held (Local i) = true
is_held held (Global i) = true

abbrev pub are_held : (held : List (Option Value)) → List Reference → Bool
are_held held [] = true
are_held held (r ∷ rs) = cond (is_held held r) (are_held held rs) false

-- the row has the values that are held
abbrev pub HasHeld : (held : List (Option Value)) → List Value → Type 0
HasHeld held row = (i : ℕ) (v : Value) → slice_get held i ≡ Some (Some v) → slice_get row i ≡ Some v

-- o is the outcome of the expression in each row that has them
abbrev pub HasHeldOutcome : Environment → (held : List (Option Value)) → ResolvedTree → Outcome → Type 0
HasHeldOutcome e held t o = (row : List Value) → HasHeld held row → HasOutcome (in_row e row) t o

-- ---- what is reported

-- what it comes to; where that is out of bounds, and it is only tested, its place
abbrev pub operand_as : (tested : Bool) → Span → Outcome → Operand
operand_as true l Out = Stands l
operand_as tested l o = Comes o

-- what both operands come to, by the outcomes that expressions have
abbrev pub AreOperandsBy : (ResolvedTree → Outcome → Type 0) → Related → Operands → Type 0
AreOperandsBy Has r o = Has r.left o.left × ((x : Outcome) × Has r.right x × (o.right ≡ operand_as (is_tested r.relation) (term_span r.right) x))

-- of a relation whose names are held that, else nothing
abbrev pub AreOutcomes : Environment → (held : List (Option Value)) → (names_held : Bool) → Option Related → Option Operands → Type 0
AreOutcomes e held false r o = o ≡ None
AreOutcomes e held true None o = o ≡ None
AreOutcomes e held true (Some r) None = ⊥
AreOutcomes e held true (Some r) (Some o) = AreOperandsBy (HasHeldOutcome e held) r o

abbrev pub AreOperandsOf : Environment → (held : List (Option Value)) → ResolvedTree → Option Operands → Type 0
AreOperandsOf e held p = AreOutcomes e held (are_held held (references p)) (relation_of p)

-- that, where details are asked for
abbrev pub AreOperands : Environment → (held : List (Option Value)) → (details : Bool) → ResolvedTree → Option Operands → Type 0
AreOperands e held false p o = o ≡ None
AreOperands e held true p o = AreOperandsOf e held p o
