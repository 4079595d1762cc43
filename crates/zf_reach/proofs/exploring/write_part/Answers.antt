use Rattle.zf_reach.proofs.Prelude.{◌∙◌, ap, refl, rules, edge}
use Rattle.zf_reach.proofs.Fronts.{always_on_err}
use Rattle.zf_reach.proofs.Parts.{closes_full_at, closes_out, keeps_more, keeps_same, parts_go_on, stops_at_edge, stops_in_part}
use Rattle.zf_reach.proofs.exploring.write_part.Goals as goal

pub returns-in_err-label-clause-err : goal.returns-in_err-label-clause-err
returns-in_err-label-clause-err g c = always_on_err _ (stops_in_part _ _ _ _ _ _ _ _ _ _ c.edges.invariant.0)

pub returns-in_err-full-in-Edge-clause-err : goal.returns-in_err-full-in-Edge-clause-err
returns-in_err-full-in-Edge-clause-err g c = always_on_err _ (stops_in_part _ _ _ _ _ _ _ _ _ _ c.edges.invariant.0)

pub returns-in_err-write_text-in-Edge-clause-err :
    goal.returns-in_err-write_text-in-Edge-clause-err
returns-in_err-write_text-in-Edge-clause-err g c =
    let t = c.edges.invariant.0 in
    let a = (rw c.in-Edge.is at c.in_ok-label.ensures.answer) t.node t.now t.stands in
    always_on_err _ (stops_at_edge _ _ _ _ _ _ _ _ _ _ t (edge c.in-Edge.label c.in-Edge.to) a.1 _ _
    (c.deref.ensures.value ∙ c.in_ok-full-in-Edge.ensures.text) c.in_err-write_text-in-Edge.ensures.err)

pub returns-then-full-clause-ok : goal.returns-then-full-clause-ok
returns-then-full-clause-ok g c =
    let t = c.edges.invariant.0 in
    let a = (rw c.in-Edge.is at c.in_ok-label.ensures.answer) t.node t.now t.stands in
    closes_full_at _ _ _ _ _ _ _ _ _ _ t (edge c.in-Edge.label c.in-Edge.to) a.1 _ (rw c.if-full.true at c.in_ok-full-in-Edge.ensures.full)
    _ (c.deref.ensures.value ∙ c.in_ok-full-in-Edge.ensures.text) c.in_ok-write_text-in-Edge.ensures.ok _ _ c.in_ok-full-in-Edge.ensures.met c.in_ok-full-in-Edge.ensures.edges

pub edges-preserved : goal.edges-preserved
edges-preserved g c =
    let t = c.edges.invariant.0 in
    let a = (rw c.in-Edge.is at c.in_ok-label.ensures.answer) t.node t.now t.stands in
    let same = c.in_ok-full-in-Edge.ensures.same in (
      parts_go_on _ _ _ _ _ _ _ _ _ _ t (edge c.in-Edge.label c.in-Edge.to) a.1 _ (g.M.Machine.Stands c.args.machine.now c.pass.new.run.cursor) (rw same.0 a.0)
          (rw c.if-full.false at c.in_ok-full-in-Edge.ensures.full)
          _ (c.deref.ensures.value ∙ c.in_ok-full-in-Edge.ensures.text) c.in_ok-write_text-in-Edge.ensures.ok _ _ _ _ c.in_ok-full-in-Edge.ensures.met same.1 c.in_ok-full-in-Edge.ensures.edges same.2,
      ap (λ u. g.M.Machine.part u) same.0 ∙ c.in_ok-label.ensures.part ∙ c.edges.invariant.1,
      same.1 ∙ c.edges.invariant.2,
      (search rules),
      keeps_more (g.M.Machine.explored c.args.machine.now).eq _ _ _ c.in-Edge.to c.edges.invariant.4 c.in_ok-full-in-Edge.ensures.met,
      rw same.0 c.in_ok-label.ensures.fits,
    )

pub returns-in-Out-clause-ok : goal.returns-in-Out-clause-ok
returns-in-Out-clause-ok g c =
    let t = c.edges.invariant.0 in
    closes_out _ _ _ _ _ _ _ _ _ _ t _ ((rw c.in-Out.is at c.in_ok-label.ensures.answer) t.node t.now t.stands)

pub edges-init : goal.edges-init
edges-init g c = let r = c.requires.1.1.1.1.1 in (r.1.0, refl, refl, r.0, keeps_same _, r.1.1)

pub returns-then-full-clause-keeps : goal.returns-then-full-clause-keeps
returns-then-full-clause-keeps g c = keeps_more (g.M.Machine.explored c.args.machine.now).eq _ _ _ c.in-Edge.to c.edges.invariant.4 c.in_ok-full-in-Edge.ensures.met
