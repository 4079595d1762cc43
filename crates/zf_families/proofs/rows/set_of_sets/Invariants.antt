use Rattle.zf_families.proofs.Prelude.{◌++◌, ◌≡◌, map, into_iter_items, SetOf, AllAscend}
use Rattle.zf_families.proofs.rows.set_of_sets.Given as goal

abbrev pub invariant-loop-row : goal.invariant-loop-row
invariant-loop-row l = (map SetOf l.fn.rows.items ≡ l.members.items ++ map SetOf (into_iter_items l.row-iterator)) × AllAscend (into_iter_items l.row-iterator)
