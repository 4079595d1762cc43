use Rattle.zf_plan.proofs.choosing.+gather.Given as goal

abbrev pub decreases-gather : goal.decreases-gather
decreases-gather g l = l.part
