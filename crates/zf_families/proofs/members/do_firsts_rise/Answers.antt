use Rattle.std.proofs.Common.{sym, ◌∙◌, ◌-◌, arith}
use Rattle.zf_families.proofs.Tested.{rise_end}
use Rattle.zf_families.proofs.members.do_firsts_rise.Goals as goal

pub returns : goal.returns
returns c = sym (c.loop-place.invariant ∙ rise_end c.args.r.now (c.loop-place.place - 1) (omega arith))
