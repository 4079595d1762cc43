use Rattle.zf_reach.proofs.Prelude.{◌∙◌, refl, with_edge, edge}
use Rattle.zf_reach.proofs.Parts.{keeps_same}
use Rattle.zf_reach.proofs.Seeks.{keeps_brought, search_ends, search_goes_on, search_out}
use Rattle.zf_reach.proofs.seeking.seek_part.Goals as goal

pub edges-init : goal.edges-init
edges-init g c = (c.requires.begun, refl, refl, keeps_same _, c.requires.fits)

pub returns-in-Some-clause-left : goal.returns-in-Some-clause-left
returns-in-Some-clause-left g c =
    let t = c.edges.invariant.0 in
    let a = (rw c.in-Edge.is at c.in_ok-label.ensures.answer) t.node t.now t.stands in
    search_ends (g.M.Machine.explored c.args.machine.now) (g.M.Machine.sought c.args.machine.now) c.args.limit _ (g.met.M.Machine.of_graph c.args.machine.now)
    (g.M.Machine.words c.args.machine.now) (g.M.Machine.verdict c.args.machine.now) _ _ _ _ _ t c.in-Some.finding c.in-Edge.label c.in-Edge.to
    (g.M.Machine.stop c.follow.new.search.run.cursor) _ _ a.1
    (rw c.in-Some.is at c.in_ok-finding-in-Edge.ensures.brings) _ c.in_ok-finding-in-Edge.ensures.edges

pub returns-in-Some-clause-keeps : goal.returns-in-Some-clause-keeps
returns-in-Some-clause-keeps g c =
    keeps_brought (g.M.Machine.explored c.args.machine.now) (g.M.Machine.sought c.args.machine.now) c.args.limit
    (g.M.Machine.stop c.follow.new.search.run.cursor) _ _ _ _ _ _ _ c.in-Edge.label c.in-Edge.to c.edges.invariant.3 c.in_ok-finding-in-Edge.ensures.brings

pub edges-preserved : goal.edges-preserved
edges-preserved g c =
    let t = c.edges.invariant.0 in
    let a = (rw c.in-Edge.is at c.in_ok-label.ensures.answer) t.node t.now t.stands in
    let same = c.in_ok-finding-in-Edge.ensures.same in (
      search_goes_on (g.M.Machine.explored c.args.machine.now) (g.M.Machine.sought c.args.machine.now) c.args.limit _ _ _ _ _ t c.in-Edge.label c.in-Edge.to
          (g.M.Machine.Stands c.args.machine.now c.follow.new.search.run.cursor) (g.M.Machine.stop c.follow.new.search.run.cursor) _ _ a.1
          (c.in_ok-finding-in-Edge.ensures.stands t.node (with_edge t.now (edge c.in-Edge.label c.in-Edge.to)) a.0)
          (rw c.in_default.is at c.in_ok-finding-in-Edge.ensures.brings) _ _ same.0 c.in_ok-finding-in-Edge.ensures.edges,
      same.1 ∙ c.in_ok-label.ensures.part ∙ c.edges.invariant.1,
      same.0 ∙ c.edges.invariant.2,
      keeps_brought (g.M.Machine.explored c.args.machine.now) (g.M.Machine.sought c.args.machine.now) c.args.limit
          (g.M.Machine.stop c.follow.new.search.run.cursor) _ _ _ _ _ _ _ c.in-Edge.label c.in-Edge.to c.edges.invariant.3
          c.in_ok-finding-in-Edge.ensures.brings,
      c.in_ok-finding-in-Edge.ensures.fits,
    )

pub returns-in-Out-clause-left : goal.returns-in-Out-clause-left
returns-in-Out-clause-left g c =
    let t = c.edges.invariant.0 in
    search_out (g.M.Machine.explored c.args.machine.now) (g.M.Machine.sought c.args.machine.now) c.args.limit _ (g.met.M.Machine.of_graph c.args.machine.now)
    (g.M.Machine.words c.args.machine.now) (g.M.Machine.verdict c.args.machine.now) _ _ _ _ _ t _
    ((rw c.in-Out.is at c.in_ok-label.ensures.answer) t.node t.now t.stands)
