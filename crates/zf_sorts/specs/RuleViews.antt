-- The program's sorts as those of `Faults`, and what its rules make of operands.
use Rattle.std.specs.Prelude.{Bool, false, true, Option, Some, None}
use Rattle.zf_term.specs.{a_schema, Offence, power, predicate, Sort, Ty, type_of, typed, unfit}
use Rattle.zf_tree.specs.declared.operator.Rule.{Rule}
use Rattle.zf_tree.specs.declared.operator.Unary.{Unary}
use Rattle.zf_sorts.specs.declared.sort.Sort as program
use Rattle.zf_sorts.specs.declared.sort.Sort.TheVariants.{Typed}
use Rattle.zf_sorts.specs.Rules.{Takes, UnaryTakes}

abbrev pub sort_of : program.Sort → Sort
sort_of (Typed t) = typed (type_of t)
sort_of program.TheVariants.Predicate = predicate
sort_of program.TheVariants.Schema = a_schema

-- what two operands make is of the sort that the rule gives the whole; there is none where the rule doesn't take them together
unfoldable pub IsMade : Rule → Sort → Sort → Option program.Sort → Type 0
IsMade rule x y None = (z : Sort) → Takes rule x y z → ⊥
IsMade rule x y (Some z) = Takes rule x y (sort_of z)

-- what one operand makes
unfoldable pub IsMadeOfOne : Unary → Sort → Option program.Sort → Type 0
IsMadeOfOne op x None = (z : Sort) → UnaryTakes op x z → ⊥
IsMadeOfOne op x (Some z) = UnaryTakes op x (sort_of z)

-- a type is needed, and another one found; or sets of such members. For private contracts alone
abbrev pub unfitting : (sets : Bool) → (needed found : Ty) → Offence
unfitting true n f = unfit (power n) (power f)
unfitting false n f = unfit n f
