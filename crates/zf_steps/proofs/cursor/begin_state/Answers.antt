-- How the turn of a state begins.
use Rattle.zf_steps.proofs.Prelude.{subst, sym, State, BeginsState, system_of}
use Rattle.zf_reach.specs.declared.machine.Beginning.{Beginning}
use Rattle.zf_steps.proofs.Answering.{begins_seen}
use Rattle.zf_steps.proofs.cursor.begin_state.Goals as goal
use Rattle.zf_steps.specs.contracts.node.NodePartialEq.TheImpl as nodes

pub returns-clause-begins : goal.returns-clause-begins
returns-clause-begins g c =
    let m = system_of g.E.Surrounding.environment g.F.Schematic.schema c.args.system.now in
    let stop = c.look_at.new.stop.items in
    subst (λ (b : Beginning). BeginsState m nodes.ghosts.eq (State c.args.values.now) b stop) (sym c.begun_as.ensures)
    (begins_seen m nodes.ghosts.eq c.args.values.now stop c.in_ok-sight.sight c.in_ok-sight.ensures.sees)
