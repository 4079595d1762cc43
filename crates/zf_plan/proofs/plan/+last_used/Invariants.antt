use Rattle.zf_plan.proofs.plan.+last_used.Given as goal

abbrev pub decreases-last_used : goal.decreases-last_used
decreases-last_used g l = l.part
