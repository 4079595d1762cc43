use Rattle.std.proofs.Common.{◌∙◌}
use Rattle.zf_scan.proofs.Fronts.{whole}
use Rattle.zf_scan.proofs.pieces.same.Goals as goal

pub returns-then-a-b : goal.returns-then-a-b
returns-then-a-b c = c.begins.ensures.value ∙ whole c.args.a.now c.args.b.now c.if-a-b.true
