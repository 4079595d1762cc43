use Rattle.zf_families.proofs.Prelude.{◌++◌, ◌≡◌, map, into_iter_items, Tuple}
use Rattle.zf_families.proofs.rows.set_of_tuples.Given as goal

abbrev pub invariant-loop-row : goal.invariant-loop-row
invariant-loop-row l = map Tuple l.fn.rows.items ≡ l.members.items ++ map Tuple (into_iter_items l.row-iterator)
