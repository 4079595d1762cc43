use Rattle.zf_unfold.proofs.instance.+instances.Given as goal

abbrev pub decreases-instances : goal.decreases-instances
decreases-instances l = l.more
