-- The turn of a state begins.
use Rattle.zf_steps.proofs.Prelude.{◌∙◌, ap, IfOk, subst, sym, State, BeginsState, system_of}
use Rattle.zf_steps.proofs.machine.ExplorerMachine.begin.Goals as goal
use Rattle.zf_steps.specs.contracts.node.NodePartialEq.TheImpl as nodes

pub returns-in-State-clause-begins : goal.returns-in-State-clause-begins
returns-in-State-clause-begins g c =
    subst (λ a. IfOk c.begin_state.result (λ b. BeginsState (system_of g.E.Surrounding.environment g.F.Schematic.schema c.args.self.now.system.now) nodes.ghosts.eq a b
    c.begin_state.new.stop.items)) (ap State c.as_slice.ensures ∙ sym c.in-State.is) c.begin_state.ensures.begins
