-- What holds of every resolved term.
use Rattle.std.specs.Prelude.{◌≡◌, ℕ, map}
use Rattle.zf_reference.specs.declared.reference.Reference.TheVariants.{Component, Local, Global}
use Rattle.zf_term.specs.ResolvedTrees.{ResolvedTree}
use Rattle.zf_term.specs.References.{references}
use Rattle.zf_reference.specs.{renumbered}
use Rattle.zf_term.specs.Shapes.{moved}

-- a term that is moved has the same references in the same order, each numbered anew
abbrev pub MovedKeepsVariables : Type 0
MovedKeepsVariables = (f : ℕ → ℕ) (t : ResolvedTree) → references (moved f t) ≡ map (renumbered f) (references t)

-- a component gets its new number; a bound variable and a global stay what they are
abbrev pub ComponentsAloneNumbered : Type 0
ComponentsAloneNumbered =
    (f : ℕ → ℕ) (i : ℕ)
    → (renumbered f (Component i) ≡ Component (f i))
    × (renumbered f (Local i) ≡ Local i)
    × (renumbered f (Global i) ≡ Global i)
