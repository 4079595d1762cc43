use Rattle.zf_plan.proofs.Prelude.{option_copied, subst, sym, IsBounded, bound, counted, view_of}
use Rattle.zf_plan.proofs.Counting.{basis-of, tests-before_end, tests-before_row, tests-within_bound}
use Rattle.zf_plan.proofs.search.Search.tests.Goals as goal

pub returns-clause-bounded : goal.returns-clause-bounded
returns-clause-bounded g c =
    let w = c.self.inside in
    let st = c.self.invariant.stands in
    let basis = basis-of g.met.V.Ord.total (g.met.J.Judge.one_truth w.judge) (g.met.J.Judge.kept w.judge) c.self.invariant.sound in
    rw (← c.self.view_is) (λ e.
    let counts = c.self.invariant.counts e in
    let seen = counted (view_of w.judge w.forest w.ranges.items (option_copied w.after) w.place w.memo w.given w.plan.is_plain) in
    let bounded : IsBounded g.V.Ord.cmp (g.J.Judge.conjuncts w.judge) seen w.memo.tests = record {
      before_events = λ ev number is ahead it. tests-before_row basis (bound w.place) st.at.within w.memo.tests w.place.fresh counts.counts ev.row number is.within ahead it;
      before_end = tests-before_end basis (bound w.place) st.at.within w.memo.tests w.place.fresh counts.counts;
      within_bound = tests-within_bound basis (bound w.place) st.at.within w.memo.tests w.place.fresh counts.counts;
    } in
    subst (IsBounded g.V.Ord.cmp (g.J.Judge.conjuncts w.judge) seen) (sym c.tests.ensures) bounded)
