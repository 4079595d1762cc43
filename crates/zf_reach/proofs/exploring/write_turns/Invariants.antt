use Rattle.zf_reach.proofs.Prelude.{◌≡◌, ◌+◌, ◌-◌, AtTurn, device_of, failures_of}
use Rattle.zf_reach.proofs.exploring.write_turns.Given as goal

abbrev pub invariant-turns : goal.invariant-turns
invariant-turns g l =
    AtTurn (g.M.Machine.explored l.machine) (g.M.Machine.words l.machine) l.fn.limit g.origin (g.W.Write.contents (device_of l.writer)) l.run.met.keys l.run.place l.run.edges
    × (failures_of l.writer ≡ 0)
    × g.M.Machine.Fits l.machine l.run.cursor

abbrev pub decreases-turns : goal.decreases-turns
decreases-turns g l = l.fn.limit + 1 - l.run.place

abbrev pub ghost-write_turn : goal.ghost-write_turn
ghost-write_turn g a = g.origin
