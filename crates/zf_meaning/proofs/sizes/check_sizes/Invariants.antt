use Rattle.zf_meaning.proofs.Prelude.{take, All, Contains, names}
use Rattle.zf_meaning.proofs.sizes.check_sizes.Given as goal

-- The sets so far have sizes.
abbrev pub invariant-loop-set : goal.invariant-loop-set
invariant-loop-set l = All (λ set. Contains (names l.sizes) set) (take l.set-index l.sets)
