-- What it goes over is as it was but for the ranges.
use Rattle.zf_plan.proofs.Prelude.{◌∙◌, ◌≡◌, ap, length, subst, sym, None, planted, trees_of, IsPlan, AreAllAhead, AreAscending, AreDueWithin, exchanged}
use Rattle.zf_plan.specs.Progress.{Progress}
use Rattle.zf_plan.proofs.Exchanging.{as_many}
use Rattle.zf_plan.proofs.search.Search.exchange.Goals as goal

pub over-requires-clause-sound : goal.over-requires-clause-sound
over-requires-clause-sound g c =
    let l = g.J.Judge.conjuncts c.self.inside.judge in
    let sound = c.self.invariant.sound in
    let others = c.args.others.items in
    let many : length c.self.inside.ranges.items ≡ length c.with_others-ranges.result.items = sym (ap length c.with_others-ranges.ensures ∙ as_many c.self.inside.ranges.items others) in
    let ascending : AreAscending g.V.Ord.cmp (exchanged c.self.inside.ranges.items others) = subst
    (λ (s : Progress g.row.V.Denot g.row.J.Denot). AreAscending g.V.Ord.cmp (exchanged s.stage.ranges others)) (sym c.self.view_is) c.requires.ascending in
    record {
      ascending = subst (AreAscending g.V.Ord.cmp) (sym c.with_others-ranges.ensures) ascending;
      ties = sound.ties;
      named = tt;
      due = subst (AreDueWithin l) many sound.due;
      leaves = sound.leaves;
      plan = subst (λ k. IsPlan l (g.J.Judge.is_used c.self.inside.judge) (trees_of c.self.inside.forest) k c.self.inside.plan) many sound.plan;
    }

pub returns-clause-events : goal.returns-clause-events
returns-clause-events g c =
    let cmp = g.V.Ord.cmp in
    let others = c.args.others.items in
    let ahead = c.in_ok-search.search.stage.ahead in
    let inside = c.self.inside in
    let all = subst (λ rs. AreAllAhead cmp (planted (g.J.Judge.conjuncts inside.judge) (trees_of inside.forest)) rs None ahead) c.with_others-ranges.ensures c.in_ok-search.ensures.events in
    subst (λ (s : Progress g.row.V.Denot g.row.J.Denot). AreAllAhead cmp (planted (g.J.Judge.conjuncts s.judge) (trees_of s.forest)) (exchanged s.stage.ranges others) None ahead) c.self.view_is all

pub over-requires-clause-plain : goal.over-requires-clause-plain
over-requires-clause-plain g c = c.self.invariant.plain
