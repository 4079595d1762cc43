use Rattle.zf_families.specs.{second}
use Rattle.zf_families.proofs.Comparisons.{tied}
use Rattle.zf_families.proofs.rows.have_one_second.Goals as goal

pub returns : goal.returns
returns c = tied c.equals.result c.second.result.now c.second-2.result.now (second c.args.p.now) (second c.args.q.now) c.second.ensures c.second-2.ensures c.equals.ensures
