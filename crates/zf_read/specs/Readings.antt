-- What the reading of a line answers.
use Rattle.std.specs.Prelude.{◌≡◌, ℕ, List}
use Rattle.zf_read.specs.Prelude.{Comp, Value, Environment, IsRow, Spelling, AreClear, binding_text}
use Rattle.zf_read.specs.declared.fault.AfterFault.{AfterFault}
use Rattle.zf_read.specs.declared.fault.AfterFault.TheVariants.{NotABinding, OutOfMemory}

-- the line of this row of the schema's types
pub record IsLineOf (ss : List Spelling) (e : Environment) (cs : List Comp) (text : List ℕ) (vs : List Value) : Type 0 where
  pub row : IsRow e cs vs
  pub line : text ≡ binding_text ss cs vs

-- the line of no row of the schema's types
unfoldable pub IsNoLine : List Spelling → Environment → List Comp → List ℕ → Type 0
IsNoLine ss e cs text = AreClear ss e.sizes → (vs : List Value) → IsRow e cs vs → text ≡ binding_text ss cs vs → ⊥

-- what a misfit tells. Its place, what was expected there, and want of memory, say nothing.
abbrev pub IfMisfit : Type 0 → AfterFault → Type 0
IfMisfit P (NotABinding place expected) = P
IfMisfit P OutOfMemory = Unit {0}

-- where the one is a misfit the other is any fault
abbrev pub TellsAsMuch : AfterFault → AfterFault → Type 0
TellsAsMuch (NotABinding place expected) other = Unit {0}
TellsAsMuch OutOfMemory other = other ≡ OutOfMemory
