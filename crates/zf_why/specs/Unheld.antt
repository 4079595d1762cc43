-- Whether a term names a component that is not held: 1 where it does, else 0. No public clause rests on this.
use Rattle.std.specs.Prelude.{ℕ, Bool, cond, List, Option}
use Rattle.zf_reference.specs.declared.reference.Reference.{Reference}
use Rattle.zf_term.specs.{ResolvedTree}
use Rattle.zf_shape.specs.{greatest}
use Rattle.zf_value.specs.declared.plain.Value.{Value}
use Rattle.zf_why.specs.Operands.{is_held}

-- 1 for true
abbrev pub flag : Bool → ℕ
flag b = cond b 1 0

abbrev pub name_lacks : List (Option Value) → Reference → ℕ
name_lacks held r = cond (is_held held r) 0 1

abbrev pub lacks : List (Option Value) → ResolvedTree → ℕ
lacks held = greatest (name_lacks held)
