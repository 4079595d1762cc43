-- Components numbered anew, where they have other places. Bound variables and globals keep their numbers, so no bound variable is captured.
use Rattle.std.specs.Prelude.{ℕ}
use Rattle.zf_reference.specs.declared.reference.Reference.{Reference}
use Rattle.zf_reference.specs.declared.reference.Reference.TheVariants.{Component, Local, Global}

abbrev pub renumbered : (ℕ → ℕ) → Reference → Reference
renumbered f (Component i) = Component (f i)
renumbered f (Local i) = Local i
renumbered f (Global i) = Global i
