use Rattle.zf_lines.proofs.Prelude.{subst, sym, AreTexts}
use Rattle.zf_lines.proofs.Keeping.{one_more_slot}
use Rattle.zf_lines.proofs.column.Column.make_slot.Goals as goal

pub loop-self-preserved : goal.loop-self-preserved
loop-self-preserved c = (λ f h. subst (AreTexts f) (sym c.in_ok-push.ensures.items) (one_more_slot f _ (c.loop-self.invariant.0 f h)), c.loop-self.invariant.1)
