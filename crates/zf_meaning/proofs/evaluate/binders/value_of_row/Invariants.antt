use Rattle.zf_meaning.proofs.Prelude.{◌≡◌, take, seen}
use Rattle.zf_meaning.proofs.evaluate.binders.value_of_row.Given as goal

abbrev pub invariant-loop-value : goal.invariant-loop-value
invariant-loop-value l = l.copies.items ≡ take l.value-index (seen l.values)
