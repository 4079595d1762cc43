use Rattle.zf_scan.proofs.refused.refused_at.Goals as goal

pub returns : goal.returns
returns c = (_, c.between.ensures)
