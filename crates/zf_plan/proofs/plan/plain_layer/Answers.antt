use Rattle.zf_plan.proofs.Prelude.{trees_of}
use Rattle.zf_plan.proofs.Numbers.{no-choosers}
use Rattle.zf_plan.proofs.plan.plain_layer.Goals as goal

pub returns-clause-layer : goal.returns-clause-layer
returns-clause-layer g c =
    let uses = g.J.Judge.is_used c.args.judge.now in
    let trees = trees_of c.args.forest.now in
    record {
      due = c.in_ok-due.ensures;
      touched = c.in_ok-touched.ensures;
      narrowing = no-choosers uses trees c.args.number c.no_choosers.result c.no_choosers.ensures.conjuncts c.no_choosers.ensures.lasts;
      sifting = no-choosers uses trees c.args.number c.no_choosers-2.result c.no_choosers-2.ensures.conjuncts c.no_choosers-2.ensures.lasts;
      blame = c.blame_at.ensures;
    }
