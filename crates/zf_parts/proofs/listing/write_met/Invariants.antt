-- The parts that are left have numbers from here on, the lines of the others are written, and the row is that of the last number.
use Rattle.zf_parts.proofs.Prelude.{◌≡◌, ◌-◌, ◌≤◌, option_copied, device_of, failures_of, IsPrinted, counted, part_wording, ranges_at, schema_of}
use Rattle.zf_parts.proofs.Unwritten.{Listing}
use Rattle.zf_parts.proofs.listing.write_met.Given as goal

abbrev pub invariant-parts : goal.invariant-parts
invariant-parts g l =
    Listing (part_wording l.style.format l.style.elements.now (schema_of l.parts.schema.now).comps (schema_of l.parts.flat.now).comps) l.fn.wanted.limit
    (g.S.Search.goal l.search).environment (schema_of l.parts.flat.now) (g.S.Search.stage l.search) l.parts.places.now (option_copied l.parts.after) l.met
    l.from l.left (g.W.Write.contents (device_of l.initial.writer)) (g.W.Write.contents (device_of l.writer))
    × IsPrinted l.style.format l.style.elements.now (schema_of l.parts.schema.now).comps (ranges_at (g.S.Search.stage l.search).ranges l.parts.places.now) l.printed
    × (failures_of l.writer ≡ 0)
    × (l.row.ranges ≡ ranges_at (g.S.Search.stage l.search).ranges l.parts.places.now)
    × (counted l.row.ranges l.row.digits ≡ l.last)
    × (l.last ≤ l.from)

abbrev pub decreases-parts : goal.decreases-parts
decreases-parts g l = l.met.end - l.from
