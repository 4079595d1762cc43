use Rattle.zf_plan.proofs.plan.+is_narrowing.Given as goal

abbrev pub decreases-is_narrowing : goal.decreases-is_narrowing
decreases-is_narrowing g l = l.part
