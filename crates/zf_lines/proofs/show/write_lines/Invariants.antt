use Rattle.zf_lines.proofs.Prelude.{◌≡◌, value_order, schema_of, IsPrinted, device_of, failures_of, row_wording}
use Rattle.zf_lines.proofs.Fewer.{ahead_count}
use Rattle.zf_lines.proofs.Standing.{Standing}
use Rattle.zf_lines.proofs.show.write_lines.Given as goal

abbrev pub invariant-lines : goal.invariant-lines
invariant-lines g l =
    Standing (row_wording l.style.format l.style.elements.now (schema_of l.flat).comps) l.fn.limit (schema_of l.flat) (g.S.Search.goal l.initial.search)
    (g.S.Search.stage l.initial.search) (g.S.Search.goal l.search) (g.S.Search.stage l.search) l.left (g.W.Write.contents (device_of l.initial.writer))
    (g.W.Write.contents (device_of l.writer))
    × (failures_of l.writer ≡ 0)
    × IsPrinted l.style.format l.style.elements.now (schema_of l.flat).comps (g.S.Search.stage l.search).ranges l.printed

abbrev pub decreases-lines : goal.decreases-lines
decreases-lines g l = ahead_count value_order (g.S.Search.stage l.search).ranges (g.S.Search.stage l.search).ahead
