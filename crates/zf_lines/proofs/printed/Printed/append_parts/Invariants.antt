-- The line is the row's up to here.
use Rattle.zf_lines.proofs.Prelude.{◌≤◌, length, map, comp_of, IsFront}
use Rattle.zf_lines.proofs.printed.Printed.append_parts.Given as goal

abbrev pub invariant-loop-place : goal.invariant-loop-place
invariant-loop-place g l =
    (l.place ≤ length (g.P.Row.values l.row))
    × IsFront l.style.format l.style.elements.now (map comp_of l.flat.components) (g.P.Located.ranges l.row) (g.P.Row.values l.row) l.place l.self
