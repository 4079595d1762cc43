-- The search of a part begins.
use Rattle.zf_steps.proofs.Prelude.{◌<◌, ◌∙◌, ap, arith, length, rules, sym, weaker_on_ok, State, IsForIn, operation_of, stage_in, system_of}
use Rattle.zf_steps.proofs.Fitting.{stands_at}
use Rattle.zf_steps.proofs.machine.ExplorerMachine.start.Goals as goal
use Rattle.zf_steps.proofs.Moving.{always_on_ok, as_many, fits_operation, of_operation, operation_at, stands_initial, stands_operation}
use Rattle.zf_steps.specs.contracts.node.NodePartialEq.TheImpl as nodes
use Rattle.zf_steps.specs.declared.cursor.Part.TheVariants.{Operation}

pub index_mut-requires : goal.index_mut-requires
index_mut-requires g c =
    let below = rw c.in-State.is at c.requires.which in
    let many = as_many (IsForIn g.S.Finder.place) (system_of g.E.Surrounding.environment g.F.Schematic.schema c.args.self.now.system.now) c.args.cursor.now.state
    c.args.cursor.now.init c.args.cursor.now.operations.items c.args.cursor.now.part c.requires.fits in
    let within : c.args.which < length c.args.cursor.now.operations.items = omega (arith, below, many) in
    search (rules, within)

pub hold-requires-in-State : goal.hold-requires-in-State
hold-requires-in-State g c =
    let m = system_of g.E.Surrounding.environment g.F.Schematic.schema c.args.self.now.system.now in
    let below = rw c.in-State.is at c.requires.which in
    let many = as_many (IsForIn g.S.Finder.place) m c.args.cursor.now.state c.args.cursor.now.init c.args.cursor.now.operations.items c.args.cursor.now.part
    c.requires.fits in
    let o = operation_of g.F.Schematic.schema c.index.result.now in (
      m.environment,
      o.schema,
      of_operation (IsForIn g.S.Finder.place) m c.args.cursor.now.state c.args.cursor.now.init c.args.cursor.now.operations.items c.args.cursor.now.part
          c.requires.fits c.args.which c.index_mut.result.now o
          (stands_at c.args.cursor.now.operations.items c.args.which c.index_mut.result.now (omega (arith, below, many)) c.index_mut.ensures.value)
          (operation_at (operation_of g.F.Schematic.schema) c.args.self.now.system.now.operations.items c.args.which c.index.result.now below c.index.ensures),
    )

pub returns-in-Root-clause-stands : goal.returns-in-Root-clause-stands
returns-in-Root-clause-stands g c =
    let m = system_of g.E.Surrounding.environment g.F.Schematic.schema c.args.self.now.system.now in
    weaker_on_ok c.hold.result (λ begins. stands_initial m nodes.ghosts.eq (stage_in g.S.Finder.place) c.args.of.now c.args.which c.in-Root.is c.requires.which
    c.hold.new.search
    (begins m.environment m.init.schema c.requires.fits.of_init)) c.hold.ensures.begins

pub returns-in-State-clause-fits : goal.returns-in-State-clause-fits
returns-in-State-clause-fits g c =
    let m = system_of g.E.Surrounding.environment g.F.Schematic.schema c.args.self.now.system.now in
    let below = rw c.in-State.is at c.requires.which in
    let many = as_many (IsForIn g.S.Finder.place) m c.args.cursor.now.state c.args.cursor.now.init c.args.cursor.now.operations.items c.args.cursor.now.part
    c.requires.fits in
    always_on_ok c.hold-in-State.result
    (fits_operation (IsForIn g.S.Finder.place) m c.args.cursor.now.state c.args.cursor.now.init c.args.cursor.now.operations.items c.args.cursor.now.part
    c.requires.fits c.args.which c.index_mut.result.now
    c.hold-in-State.new.search (Operation c.args.which) below
    (stands_at c.args.cursor.now.operations.items c.args.which c.index_mut.result.now
    (omega (arith, below, many)) c.index_mut.ensures.value) c.hold-in-State.ensures.kept)

pub returns-in-State-clause-stands : goal.returns-in-State-clause-stands
returns-in-State-clause-stands g c =
    let m = system_of g.E.Surrounding.environment g.F.Schematic.schema c.args.self.now.system.now in
    let below = rw c.in-State.is at c.requires.which in
    let many = as_many (IsForIn g.S.Finder.place) m c.args.cursor.now.state c.args.cursor.now.init c.args.cursor.now.operations.items c.args.cursor.now.part
    c.requires.fits in
    let o = operation_of g.F.Schematic.schema c.index.result.now in
    let at = operation_at (operation_of g.F.Schematic.schema) c.args.self.now.system.now.operations.items c.args.which c.index.result.now below c.index.ensures in
    let was = stands_at c.args.cursor.now.operations.items c.args.which c.index_mut.result.now (omega (arith, below, many)) c.index_mut.ensures.value in
    weaker_on_ok c.hold-in-State.result
    (λ begins. stands_operation m nodes.ghosts.eq (stage_in g.S.Finder.place) c.args.of.now c.as_slice.result.now c.args.which (c.in-State.is
    ∙ ap State (sym c.as_slice.ensures)) o at c.args.cursor.now.operations.items
    (omega (arith, below, many)) c.hold-in-State.new.search
    (begins m.environment o.schema (of_operation (IsForIn g.S.Finder.place) m c.args.cursor.now.state c.args.cursor.now.init c.args.cursor.now.operations.items
    c.args.cursor.now.part c.requires.fits c.args.which
    c.index_mut.result.now o was at)))
    c.hold-in-State.ensures.begins
