use Rattle.zf_plan.proofs.plan.+is_due_within.Given as goal

abbrev pub decreases-is_due_within : goal.decreases-is_due_within
decreases-is_due_within g l = l.part
