use Rattle.zf_plan.proofs.Prelude.{subst, option_copied, trees_of, Goes, planted}
use Rattle.zf_plan.proofs.Stepping.{setting-of, gives-on, SameAhead-from}
use Rattle.zf_plan.proofs.steps.next_answer.Goals as goal

pub returns-in-Some-clause-gives : goal.returns-in-Some-clause-gives
returns-in-Some-clause-gives g c =
    let given = setting-of g.met.V.Ord.total (g.met.J.Judge.one_truth c.args.problem.now.judge.now) (g.met.J.Judge.kept c.args.problem.now.judge.now) c.requires.sound in
    let st = c.requires.stands in
    let now = c.loop-answer.invariant in
    let here = now.0 in
    gives-on given c.args.place.now c.loop-answer.place c.step_on.new.place c.in-Some.answer (SameAhead-from given c.args.place.now c.loop-answer.place st.at here.at now.1)
    (subst (λ found. Goes g.V.Ord.cmp (planted (g.J.Judge.conjuncts c.args.problem.now.judge.now) (trees_of c.args.problem.now.forest.now))
    c.args.problem.now.ranges.now (option_copied c.args.problem.now.after) c.loop-answer.place found c.step_on.new.place) c.in-Some.is
    c.in_ok-answer.ensures.goes)

pub returns-in-Some-clause-counts : goal.returns-in-Some-clause-counts
returns-in-Some-clause-counts g c = λ plain h. c.in_ok-answer.ensures.counts plain (c.loop-answer.invariant.4 plain h)

pub returns-in_err-answer-clause-counts : goal.returns-in_err-answer-clause-counts
returns-in_err-answer-clause-counts g c = λ plain h. c.in_err-answer.ensures.counts plain (c.loop-answer.invariant.4 plain h)
