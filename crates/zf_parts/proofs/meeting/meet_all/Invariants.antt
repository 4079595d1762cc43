-- The parts of what is passed are marked.
use Rattle.zf_parts.proofs.Prelude.{value_order, option_copied, ahead_count, schema_of}
use Rattle.zf_parts.proofs.Passed.{Meeting}
use Rattle.zf_parts.proofs.meeting.meet_all.Given as goal

abbrev pub invariant-bindings : goal.invariant-bindings
invariant-bindings g l =
    Meeting l.parts.places.now (option_copied l.parts.after) (schema_of l.parts.flat.now) (g.S.Search.goal l.initial.search)
    (g.S.Search.stage l.initial.search) (g.S.Search.goal l.search) (g.S.Search.stage l.search) l.met

abbrev pub decreases-bindings : goal.decreases-bindings
decreases-bindings g l = ahead_count value_order (g.S.Search.stage l.search).ranges (g.S.Search.stage l.search).ahead
