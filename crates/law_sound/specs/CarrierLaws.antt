-- What the carrier of a type is: the set of exactly the type's values, and the outcome of the expression that spells the type.
use Rattle.std.specs.Prelude.{◌≡◌, ◌↔◌, ◌⊎◌, ℕ, false, List, Option, None, Some}
use Rattle.zf_tree.specs.declared.span.Span.{Span}
use Rattle.law_sound.specs.Prelude.{basic, constant, Defined, first_named, has_numbers, int, listed, no_terms, no_types, power, product, reference, ResolvedTree, term, Ty, type, Tys, unary, Value, Is, IsMember, members, Size, definition_number, Environment, globally, HasOutcome, IsCarrier, IsEnvironment, IsOfType}
use Rattle.zf_tree.specs.declared.symbol.Constant.TheVariants.{Integers}
use Rattle.zf_tree.specs.declared.symbol.Prefix.TheVariants.{Power}
use Rattle.zf_tree.specs.declared.operator.Sign.TheVariants.{Symbol}
use Rattle.zf_tree.specs.declared.operator.Listed.TheVariants.{Product}
use Rattle.zf_tree.specs.declared.operator.Unary.TheVariants.{Sign}
use Rattle.zf_reference.specs.declared.reference.Reference.TheVariants.{Global}
use Rattle.zf_term.specs.ResolvedTrees.{ResolvedTrees}
use Rattle.zf_value.specs.declared.value.Outcome.{Outcome}

-- ---- its members

-- A carrier that is a value is a set of values of the type, and has each of them, unless numbers are parts of the type and end.
abbrev pub CarriersAreExact : Type 0
CarriersAreExact =
    (e : Environment) (t : Ty) (v : Value)
    → IsCarrier e t (Is v) → IsOfType e (power t) v × ((e.numbers ≡ None) ⊎ (has_numbers t ≡ false) → (z : Value) → IsMember z (members v) ↔ IsOfType e t z)

-- ---- as an outcome

-- the global at this place is the given set or free type of the name
abbrev pub IsTypeAt : List Defined → (name : List ℕ) → (place : ℕ) → Type 0
IsTypeAt g name place = (d : Defined) × (n : ℕ) × (first_named (λ d. d.name) name g ≡ Some (place, d)) × (definition_number d.definition ≡ Some n)

-- the expression spells the type, by `\num`, given sets, free types, power sets and products
abbrev mutual
  pub Spells : List Defined → Ty → ResolvedTree → Type 0
  Spells g int x = (span : Span) × (x ≡ constant span Integers)
  Spells g (basic name) x = (span : Span) × (place : ℕ) × IsTypeAt g name place × (x ≡ reference span (Global place))
  Spells g (power t) x = (span : Span) × (y : ResolvedTree) × Spells g t y × (x ≡ unary span (Sign (Symbol Power)) y)
  Spells g (product ts) x = (span : Span) × (ys : ResolvedTrees) × SpellAll g ts ys × (x ≡ listed span Product ys)

  pub SpellAll : List Defined → Tys → ResolvedTrees → Type 0
  SpellAll g no_types ys = ys ≡ no_terms
  SpellAll g (type t ts) ys = (z : ResolvedTree) × (zs : ResolvedTrees) × Spells g t z × SpellAll g ts zs × (ys ≡ term z zs)

-- The carrier of a type is the outcome of each expression that spells it.
abbrev pub CarriersAreOutcomes : Type 0
CarriersAreOutcomes =
    (g : List Defined) (stated : List Size) (numbers : Option ℕ) (e : Environment) (t : Ty) (x : ResolvedTree) (o : Outcome)
    → IsEnvironment g stated numbers e → Spells g t x → IsCarrier e t o ↔ HasOutcome (globally e) x o
