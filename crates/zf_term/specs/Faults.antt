-- Faults of types, as plain data: what each is about, and what kind of fault that is.
use Rattle.zf_tree.specs.declared.span.Span.{Span}
use Rattle.std.specs.Prelude.{ℕ, List}
use Rattle.zf_tree.specs.declared.operator.Need.{Need}
use Rattle.zf_tree.specs.declared.operator.Need.TheVariants as need
use Rattle.zf_term.specs.declared.fault.Limit.{Limit}
use Rattle.zf_term.specs.declared.fault.TypeFaultKind.{TypeFaultKind}
use Rattle.zf_term.specs.declared.fault.TypeFaultKind.TheVariants.{NotDeclared, AlreadyDefined, Mismatch, NotASet, NotANumber, NotARelation, NotAPredicate, NotAnExpression, ComponentClash, NotASchema, LocalTwice, TooLarge}
use Rattle.zf_term.specs.Types.{Ty}

-- what a term is: an expression of a type, a predicate, or the name of a schema
pub data Sort : Type 0 where
  typed : Ty → Sort
  predicate : Sort
  a_schema : Sort

-- what is wrong
pub data Offence : Type 0 where
  -- a name, as it is spelled
  not_declared : (name : List ℕ) → Offence
  already_defined : (name : List ℕ) → Offence
  not_a_schema : (name : List ℕ) → Offence
  local_twice : (name : List ℕ) → Offence
  -- what stands to the left and to the right is of two sorts that no rule takes together
  mismatch : (left right : Sort) → Offence
  unfit : (needed found : Ty) → Offence
  -- a display without members, which has no type
  no_members : Offence
  -- a place needs another sort than what was found there
  misplaced : Need → (found : Sort) → Offence
  clash : (name : List ℕ) → (left right : Ty) → Offence
  too_large : Limit → Offence

-- with the span of the term or name that offends
pub record Fault : Type 0 where
  pub offence : Offence
  pub span : Span

-- of an expression where this is needed
abbrev pub lack : Need → TypeFaultKind
lack need.Expression = NotAnExpression
lack need.Number = NotANumber
lack need.Set = NotASet
lack need.Relation = NotARelation
lack need.Predicate = NotAPredicate

-- of a predicate or a schema's name
abbrev pub untyped_lack : Need → TypeFaultKind
untyped_lack need.Predicate = NotAPredicate
untyped_lack _ = NotAnExpression

abbrev pub lack_of : Need → Sort → TypeFaultKind
lack_of n (typed t) = lack n
lack_of n _ = untyped_lack n

abbrev pub kind_of : Offence → TypeFaultKind
kind_of (not_declared x) = NotDeclared
kind_of (already_defined x) = AlreadyDefined
kind_of (not_a_schema x) = NotASchema
kind_of (local_twice x) = LocalTwice
kind_of (misplaced n z) = lack_of n z
kind_of (clash x t u) = ComponentClash
kind_of (too_large l) = TooLarge
kind_of _ = Mismatch
