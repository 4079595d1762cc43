use Rattle.zf_lines.proofs.Prelude.{◌≤◌, length, List, map, take, Value, comp_of, AreColumns}
use Rattle.zf_lines.proofs.column.columns_of.Given as goal

abbrev pub invariant-loop-place : goal.invariant-loop-place
invariant-loop-place l =
    (l.place ≤ length l.flat.components)
    × ((ranges : List (List Value)) → AreColumns l.style.format l.style.elements.now (map comp_of (take l.place l.flat.components)) ranges l.columns.items)
