use Rattle.zf_meaning.proofs.Prelude.{◌++◌, ◌≡◌, drop, globals_of, given_sets}
use Rattle.zf_meaning.proofs.sizes.given_names.Given as goal

abbrev pub invariant-loop-place : goal.invariant-loop-place
invariant-loop-place l = l.sets.items ++ given_sets (drop l.place (globals_of l.globals)) ≡ given_sets (globals_of l.globals)
