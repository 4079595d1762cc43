use Rattle.zf_plan.proofs.Prelude.{◌∙◌, length, subst, sym, false≢true, trees_of, IsPlan}
use Rattle.zf_plan.proofs.search.Search.start.Goals as goal

pub over-requires-clause-sound : goal.over-requires-clause-sound
over-requires-clause-sound g c =
    record {
      ascending = c.requires.ascending;
      ties = c.requires.ties;
      named = c.requires.named;
      due = c.requires.due;
      leaves = c.requires.leaves;
      plan = subst (λ rs. IsPlan (g.J.Judge.conjuncts c.args.judge) (g.J.Judge.is_used c.args.judge) (trees_of c.args.forest) (length rs) c.in_ok-plan.plan)
          c.deref.ensures.value c.in_ok-plan.ensures.plan;
    }

pub over-requires-clause-plain : goal.over-requires-clause-plain
over-requires-clause-plain g c = λ e. absurd (false≢true (sym c.in_ok-plan.ensures.plain ∙ e))
