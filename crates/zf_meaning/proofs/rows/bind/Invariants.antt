use Rattle.zf_meaning.proofs.Prelude.{◌++◌, ◌≡◌, take, seen, picked}
use Rattle.zf_meaning.proofs.rows.bind.Given as goal

abbrev pub invariant-loop-i : goal.invariant-loop-i
invariant-loop-i l = seen l.bound.items ≡ seen l.initial.bound.items ++ picked (seen l.lists) (take l.i l.places)
