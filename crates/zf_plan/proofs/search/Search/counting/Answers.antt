use Rattle.zf_plan.proofs.Prelude.{length, subst, sym, option_copied, trees_of, IsPlan, IsFlat}
use Rattle.zf_plan.proofs.Groves.{flat-leaves}
use Rattle.zf_plan.proofs.Stepping.{ahead-begins}
use Rattle.zf_plan.proofs.search.Search.counting.Goals as goal

pub new-requires-clause-leaves : goal.new-requires-clause-leaves
new-requires-clause-leaves g c = flat-leaves (g.J.Judge.conjuncts c.args.judge).number (trees_of c.in_ok-forest.forest)
    (subst (λ n. IsFlat n (trees_of c.in_ok-forest.forest)) c.count.ensures c.in_ok-forest.ensures)

pub over-requires-clause-sound : goal.over-requires-clause-sound
over-requires-clause-sound g c =
    record {
      ascending = c.requires.ascending;
      ties = c.requires.ties;
      named = c.requires.named;
      due = c.requires.due;
      leaves = flat-leaves (g.J.Judge.conjuncts c.args.judge).number (trees_of c.in_ok-forest.forest) (subst (λ n. IsFlat n (trees_of c.in_ok-forest.forest)) c.count.ensures c.in_ok-forest.ensures);
      plan = subst (λ rs. IsPlan (g.J.Judge.conjuncts c.args.judge) (g.J.Judge.is_used c.args.judge) (trees_of c.in_ok-forest.forest) (length rs) c.in_ok-plan.plan)
          c.deref.ensures.value c.in_ok-plan.ensures.plan;
    }

pub over-requires-clause-plain : goal.over-requires-clause-plain
over-requires-clause-plain g c = λ e. record {
  flat = subst (λ n. IsFlat n (trees_of c.in_ok-forest.forest)) c.count.ensures c.in_ok-forest.ensures;
  plain = c.in_ok-plan.ensures.plain;
}

pub returns-clause-problem : goal.returns-clause-problem
returns-clause-problem g c =
    let p = c.in_ok-search.ensures.problem in (
      p.0,
      subst (λ f. IsFlat (g.J.Judge.conjuncts c.args.judge).number (trees_of f)) (sym p.1)
          (subst (λ n. IsFlat n (trees_of c.in_ok-forest.forest)) c.count.ensures c.in_ok-forest.ensures),
      p.2,
      p.3,
    )

pub returns-clause-events : goal.returns-clause-events
returns-clause-events g c =
    ahead-begins g.V.Ord.cmp (g.J.Judge.conjuncts c.args.judge) c.args.ranges.items (option_copied c.args.after) c.in_ok-search.search.stage.ahead
    (c.in_ok-search.ensures.begun c.in_ok-plan.ensures.plain)
