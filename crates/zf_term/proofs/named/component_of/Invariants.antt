use Rattle.zf_term.proofs.Prelude.{◌≡◌, map, None, take, comp_of, first_named}
use Rattle.zf_term.proofs.named.component_of.Given as goal

abbrev pub invariant-loop-place : goal.invariant-loop-place
invariant-loop-place l = first_named (λ c. c.name) l.name (map comp_of (take l.place l.components)) ≡ None
