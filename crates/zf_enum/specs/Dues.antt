-- The last component up to a place that a term names. No public clause rests on this.
use Rattle.std.specs.Prelude.{ℕ, ◌+◌, nat_le, cond}
use Rattle.zf_reference.specs.declared.reference.Reference.{Reference}
use Rattle.zf_reference.specs.declared.reference.Reference.TheVariants.{Component, Local, Global}
use Rattle.zf_term.specs.{ResolvedTree}
use Rattle.zf_shape.specs.{greatest}

-- the place of a component, from 1, if it is one up to place m
abbrev pub place_up_to : ℕ → Reference → ℕ
place_up_to m (Component i) = cond (nat_le i m) (i + 1) 0
place_up_to m (Local i) = 0
place_up_to m (Global i) = 0

abbrev pub need : ℕ → ResolvedTree → ℕ
need m = greatest (place_up_to m)
