-- What is ahead has the parts that are left, and the lines of the others are written.
use Rattle.zf_parts.proofs.Prelude.{◌≡◌, value_order, option_copied, ahead_count, device_of, failures_of, IsPrinted, part_wording, schema_of}
use Rattle.zf_parts.proofs.Fronting.{Fronting}
use Rattle.zf_parts.proofs.fronts.show_fronts.Given as goal

abbrev pub invariant-parts : goal.invariant-parts
invariant-parts g l =
    Fronting (part_wording l.style.format l.style.elements.now (schema_of l.parts.schema.now).comps (schema_of l.parts.flat.now).comps) l.fn.limit
    l.parts.places.now (option_copied l.parts.after) (schema_of l.parts.flat.now) (g.S.Search.goal l.initial.search) (g.S.Search.stage l.initial.search)
    (g.S.Search.goal l.search) (g.S.Search.stage l.search) l.left (g.W.Write.contents (device_of l.initial.writer)) (g.W.Write.contents (device_of l.writer))
    × IsPrinted l.style.format l.style.elements.now (schema_of l.parts.schema.now).comps (g.S.Search.stage l.search).ranges l.printed
    × (failures_of l.writer ≡ 0)

abbrev pub decreases-parts : goal.decreases-parts
decreases-parts g l = ahead_count value_order (g.S.Search.stage l.search).ranges (g.S.Search.stage l.search).ahead
