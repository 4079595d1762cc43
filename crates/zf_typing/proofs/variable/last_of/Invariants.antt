use Rattle.zf_typing.proofs.Prelude.{◌≡◌, ◌≤◌, length, map, take, last_named, variable_of}
use Rattle.zf_typing.proofs.variable.last_of.Given as goal

abbrev pub invariant-loop-place : goal.invariant-loop-place
invariant-loop-place l = record {
  within : l.place ≤ length l.variables;
  behind : last_named (λ v. v.name) l.name (map variable_of l.variables) ≡ last_named (λ v. v.name) l.name (map variable_of (take l.place l.variables));
}

abbrev pub decreases-loop-place : goal.decreases-loop-place
decreases-loop-place l = l.place
