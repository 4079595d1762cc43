-- What is seen of a state.
use Rattle.zf_steps.proofs.Answering.{seen_told}
use Rattle.zf_steps.proofs.Moving.{weaker_if_ok}
use Rattle.zf_steps.proofs.cursor.look_at.Goals as goal
use Rattle.zf_steps.specs.contracts.node.NodePartialEq.TheImpl as nodes
use Rattle.zf_steps.specs.{stage_in, system_of}

pub returns-clause-sees : goal.returns-clause-sees
returns-clause-sees g c =
    weaker_if_ok c.sight_of.result
    (λ s is. seen_told (system_of g.E.Surrounding.environment g.F.Schematic.schema c.args.system.now) nodes.ghosts.eq c.args.values.now
    (stage_in g.S.Finder.place c.hold.new.search) (stage_in g.S.Finder.place c.advance.new.search) (c.in_ok-hold.ensures.begins _ _ c.requires)
    c.in_ok-stepped.stepped c.in_ok-stepped.ensures.row (c.in_ok-stepped.ensures.answer _ _ (c.hold.ensures.kept _ _ c.requires)) s c.sight_of.new.stop.items is)
    c.sight_of.ensures
