-- What is written so far, and then what is reported of the parts ahead, is the whole.
use Rattle.zf_parts.proofs.Prelude.{◌≡◌, device_of, failures_of, HasLimit, part_wording, schema_of}
use Rattle.zf_parts.proofs.Writing.{SoFar}
use Rattle.zf_parts.proofs.showing.write_parts.Given as goal

abbrev pub invariant-loop-values : goal.invariant-loop-values
invariant-loop-values g l =
    SoFar (part_wording l.style.format l.style.elements.now (schema_of l.parts.schema.now).comps (schema_of l.parts.flat.now).comps) l.fn.limit
    l.collected.entries (g.W.Write.contents (device_of l.initial.writer)) l.left l.values-iterator (g.W.Write.contents (device_of l.writer))
    × HasLimit l.left
    × (failures_of l.writer ≡ 0)
