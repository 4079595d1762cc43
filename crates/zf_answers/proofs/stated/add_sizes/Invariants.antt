-- The sets up to the place have their size.
use Rattle.zf_answers.proofs.Prelude.{◌++◌, ◌≡◌, Some, take, with_size}
use Rattle.zf_answers.proofs.stated.add_sizes.Given as goal

abbrev pub invariant-loop-set : goal.invariant-loop-set
invariant-loop-set l = l.sizes.items ≡ l.initial.sizes.items ++ with_size (Some l.count) (take l.set-index l.sets)
