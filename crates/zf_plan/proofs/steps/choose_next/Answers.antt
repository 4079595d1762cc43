use Rattle.zf_plan.proofs.Prelude.{◌∙◌, bound, Remembers, rules, subst, take, trees_of, mark_at}
use Rattle.zf_plan.proofs.Marking.{kept-all}
use Rattle.zf_plan.proofs.steps.choose_next.Goals as goal

pub returns-in_err-due-clause-enters : goal.returns-in_err-due-clause-enters
returns-in_err-due-clause-enters g c =
    let p = c.args.place.now in
    record {
      remembers = subst (λ is. Remembers (g.J.Judge.conjuncts c.args.problem.now.judge.now) (g.J.Judge.is_used c.args.problem.now.judge.now) c.args.problem.now.ranges.now
          (take p.depth is) c.choose_at.new.memo) c.deref.ensures.value c.in_err-due.ensures.remembers;
      same = c.in_err-due.ensures.same;
      place = search rules;
      kept = kept-all (g.J.Judge.conjuncts c.args.problem.now.judge.now) (trees_of c.args.problem.now.forest.now) c.args.problem.now.ranges.now p.marks.stamps.items
          (bound p) p.depth c.args.choice.now c.choose_at.new.choice (mark_at p.marks p.depth) (λ is. c.in_err-due.ensures.refused (c.is_still-again.ensures ∙ is)) c.requires.kept;
      all = search rules;
      granted = search rules;
      err = search rules;
    }
