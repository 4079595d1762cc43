-- A state is looked at.
use Rattle.zf_steps.proofs.Prelude.{◌∙◌, ap, IfOk, subst, sym, IsSeenAs, State, sought_in, system_of}
use Rattle.zf_steps.proofs.machine.ExplorerMachine.look.Goals as goal

pub returns-in-State-clause-sees : goal.returns-in-State-clause-sees
returns-in-State-clause-sees g c =
    subst (λ a. IfOk c.look_at.result (λ s. IsSeenAs (sought_in (system_of g.E.Surrounding.environment g.F.Schematic.schema c.args.self.now.system.now)) s a c.look_at.new.stop.items))
    (ap State c.as_slice.ensures ∙ sym c.in-State.is) c.look_at.ensures.sees
