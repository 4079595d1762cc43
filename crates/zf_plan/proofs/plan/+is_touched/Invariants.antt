use Rattle.zf_plan.proofs.plan.+is_touched.Given as goal

abbrev pub decreases-is_touched : goal.decreases-is_touched
decreases-is_touched g l = l.part
