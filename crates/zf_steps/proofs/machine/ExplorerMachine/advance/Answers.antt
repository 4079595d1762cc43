-- The search of a part goes on.
use Rattle.zf_steps.proofs.Prelude.{◌<◌, arith, length, rules, IsForIn, operation_of, stage_in, system_of}
use Rattle.zf_steps.proofs.Fitting.{stands_at}
use Rattle.zf_steps.proofs.machine.ExplorerMachine.advance.Goals as goal
use Rattle.zf_steps.proofs.Moving.{advances_initial, advances_operation, always_on_ok, as_many, fewer_operation, fits_operation, of_operation, operation_at, weaker_if_ok}
use Rattle.zf_steps.specs.contracts.node.NodePartialEq.TheImpl as nodes

pub index_mut-requires : goal.index_mut-requires
index_mut-requires g c =
    let below = rw c.in-Operation.is at c.requires.has_part in
    let many = as_many (IsForIn g.S.Finder.place) (system_of g.E.Surrounding.environment g.F.Schematic.schema c.args.self.now.system.now) c.args.cursor.now.state
    c.args.cursor.now.init c.args.cursor.now.operations.items c.args.cursor.now.part c.requires in
    let within : c.in-Operation.number < length c.args.cursor.now.operations.items = omega (arith, below, many) in
    search (rules, within)

pub go_on-requires-in-Operation : goal.go_on-requires-in-Operation
go_on-requires-in-Operation g c =
    let m = system_of g.E.Surrounding.environment g.F.Schematic.schema c.args.self.now.system.now in
    let below = rw c.in-Operation.is at c.requires.has_part in
    let many = as_many (IsForIn g.S.Finder.place) m c.args.cursor.now.state c.args.cursor.now.init c.args.cursor.now.operations.items c.args.cursor.now.part c.requires in
    of_operation (IsForIn g.S.Finder.place) m c.args.cursor.now.state c.args.cursor.now.init c.args.cursor.now.operations.items c.args.cursor.now.part c.requires
    c.in-Operation.number c.index_mut.result.now
    (operation_of g.F.Schematic.schema c.index.result.now)
    (stands_at c.args.cursor.now.operations.items c.in-Operation.number c.index_mut.result.now (omega (arith, below, many)) c.index_mut.ensures.value)
    (operation_at (operation_of g.F.Schematic.schema) c.args.self.now.system.now.operations.items c.in-Operation.number c.index.result.now below c.index.ensures)

pub returns-in-Initial-clause-answer : goal.returns-in-Initial-clause-answer
returns-in-Initial-clause-answer g c =
    weaker_if_ok c.go_on.result (λ f goes. advances_initial (system_of g.E.Surrounding.environment g.F.Schematic.schema c.args.self.now.system.now) nodes.ghosts.eq
    (stage_in g.S.Finder.place) c.args.cursor.now.init c.go_on.new.search f c.go_on.new.stop.items c.args.cursor.now.part
    c.args.cursor.now.operations.items c.in-Initial.is goes) c.go_on.ensures.answer

pub returns-in-Operation-clause-fits : goal.returns-in-Operation-clause-fits
returns-in-Operation-clause-fits g c =
    let m = system_of g.E.Surrounding.environment g.F.Schematic.schema c.args.self.now.system.now in
    let below = rw c.in-Operation.is at c.requires.has_part in
    let many = as_many (IsForIn g.S.Finder.place) m c.args.cursor.now.state c.args.cursor.now.init c.args.cursor.now.operations.items c.args.cursor.now.part c.requires in
    always_on_ok c.go_on-in-Operation.result
    (fits_operation (IsForIn g.S.Finder.place) m c.args.cursor.now.state c.args.cursor.now.init c.args.cursor.now.operations.items c.args.cursor.now.part c.requires
    c.in-Operation.number c.index_mut.result.now
    c.go_on-in-Operation.new.search c.args.cursor.now.part c.requires.has_part
    (stands_at c.args.cursor.now.operations.items c.in-Operation.number c.index_mut.result.now
    (omega (arith, below, many)) c.index_mut.ensures.value) c.go_on-in-Operation.ensures.kept)

pub returns-in-Operation-clause-answer : goal.returns-in-Operation-clause-answer
returns-in-Operation-clause-answer g c =
    let m = system_of g.E.Surrounding.environment g.F.Schematic.schema c.args.self.now.system.now in
    let below = rw c.in-Operation.is at c.requires.has_part in
    let many = as_many (IsForIn g.S.Finder.place) m c.args.cursor.now.state c.args.cursor.now.init c.args.cursor.now.operations.items c.args.cursor.now.part c.requires in
    let at = operation_at (operation_of g.F.Schematic.schema) c.args.self.now.system.now.operations.items c.in-Operation.number c.index.result.now below c.index.ensures in
    let was = stands_at c.args.cursor.now.operations.items c.in-Operation.number c.index_mut.result.now
    (omega (arith, below, many)) c.index_mut.ensures.value in
    weaker_if_ok c.go_on-in-Operation.result (λ f goes. advances_operation m nodes.ghosts.eq (stage_in g.S.Finder.place) c.index_mut.result.now
    c.go_on-in-Operation.new.search f c.go_on-in-Operation.new.stop.items
    c.args.cursor.now.part c.in-Operation.number (operation_of g.F.Schematic.schema c.index.result.now) c.args.cursor.now.init
    c.args.cursor.now.operations.items c.in-Operation.is at was (omega (arith, below, many)) goes)
    c.go_on-in-Operation.ensures.answer

pub returns-in-Operation-clause-fewer : goal.returns-in-Operation-clause-fewer
returns-in-Operation-clause-fewer g c =
    let m = system_of g.E.Surrounding.environment g.F.Schematic.schema c.args.self.now.system.now in
    let below = rw c.in-Operation.is at c.requires.has_part in
    let many = as_many (IsForIn g.S.Finder.place) m c.args.cursor.now.state c.args.cursor.now.init c.args.cursor.now.operations.items c.args.cursor.now.part c.requires in
    let was = stands_at c.args.cursor.now.operations.items c.in-Operation.number c.index_mut.result.now
    (omega (arith, below, many)) c.index_mut.ensures.value in
    weaker_if_ok c.go_on-in-Operation.result (λ f h. fewer_operation m nodes.ghosts.eq (stage_in g.S.Finder.place) c.index_mut.result.now
    c.go_on-in-Operation.new.search f c.go_on-in-Operation.new.stop.items
    c.args.cursor.now.part c.in-Operation.number c.args.cursor.now.init c.args.cursor.now.operations.items c.in-Operation.is was
    (omega (arith, below, many)) h) c.go_on-in-Operation.ensures.fewer
