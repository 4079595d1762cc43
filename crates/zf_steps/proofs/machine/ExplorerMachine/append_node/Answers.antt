-- Nothing is said of what is before the initial states.
use Rattle.zf_steps.proofs.Prelude.{◌++◌, ◌≡◌, subst, sym, system_of, words}
use Rattle.zf_steps.proofs.machine.ExplorerMachine.append_node.Goals as goal
use Rattle.zf_steps.proofs.Wording.{nothing_of_root}

pub returns-in-Root : goal.returns-in-Root
returns-in-Root g c =
    let m = system_of g.E.Surrounding.environment g.F.Schematic.schema c.args.self.now.system.now in
    subst (λ a. c.args.line.now.items ≡ c.args.line.now.items ++ (words m).node c.args.from c.args.number a) (sym c.in-Root.is)
    (nothing_of_root m c.args.from c.args.number c.args.line.now.items)
