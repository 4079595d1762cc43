-- The parts before this one are those of the row.
use Rattle.zf_lines.proofs.Prelude.{◌<◌, ◌≡◌, ℕ, [], Some, slice_get, slice_index_or, Part}
use Rattle.zf_lines.proofs.printed.Printed.common.Given as goal

abbrev pub invariant-loop-i : goal.invariant-loop-i
invariant-loop-i g l =
    (i : ℕ) (part : Part) → i < l.i → slice_get l.self.parts.items i ≡ Some part
    → slice_get (g.P.Row.values l.row) i ≡ slice_get (slice_index_or (g.P.Located.ranges l.row) i []) part.place
