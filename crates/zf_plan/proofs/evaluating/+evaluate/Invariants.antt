use Rattle.zf_plan.proofs.evaluating.+evaluate.Given as goal

abbrev pub decreases-evaluate : goal.decreases-evaluate
decreases-evaluate g l = l.part
