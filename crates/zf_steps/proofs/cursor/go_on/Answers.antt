-- The next step by an operation.
use Rattle.zf_steps.proofs.Answering.{fewer_told, goes_told}
use Rattle.zf_steps.proofs.Moving.{weaker_if_ok}
use Rattle.zf_steps.proofs.cursor.go_on.Goals as goal
use Rattle.zf_steps.specs.contracts.node.NodePartialEq.TheImpl as nodes
use Rattle.zf_steps.specs.{operation_of, stage_in, system_of}

pub returns-clause-answer : goal.returns-clause-answer
returns-clause-answer g c =
    weaker_if_ok c.found_of.result
    (λ f is. goes_told (system_of g.E.Surrounding.environment g.F.Schematic.schema c.args.system.now) nodes.ghosts.eq c.args.number
    (operation_of g.F.Schematic.schema c.args.operation.now) (stage_in g.S.Finder.place c.args.search.now) (stage_in g.S.Finder.place c.advance.new.search)
    c.in_ok-stepped.ensures.ranges c.in_ok-stepped.stepped c.in_ok-stepped.ensures.row (c.in_ok-stepped.ensures.answer _ _ c.requires) f c.found_of.new.stop.items is)
    c.found_of.ensures

pub returns-clause-fewer : goal.returns-clause-fewer
returns-clause-fewer g c =
    weaker_if_ok c.found_of.result
    (λ f is. fewer_told (system_of g.E.Surrounding.environment g.F.Schematic.schema c.args.system.now) c.args.number
    (operation_of g.F.Schematic.schema c.args.operation.now) (stage_in g.S.Finder.place c.args.search.now) (stage_in g.S.Finder.place c.advance.new.search)
    c.in_ok-stepped.ensures.ranges c.in_ok-stepped.stepped (c.in_ok-stepped.ensures.answer _ _ c.requires) f c.found_of.new.stop.items is)
    c.found_of.ensures
