use Rattle.zf_plan.proofs.plan.+used_by.Given as goal

abbrev pub decreases-used_by : goal.decreases-used_by
decreases-used_by g l = l.part
