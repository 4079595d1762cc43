use Rattle.zf_meaning.proofs.Prelude.{◌++◌, ◌≡◌, replicate, seen}
use Rattle.zf_meaning.proofs.evaluate.ranges.repeat.Given as goal

abbrev pub invariant-loop : goal.invariant-loop
invariant-loop l = seen l.lists.items ≡ seen l.initial.lists.items ++ replicate l.counter l.list
