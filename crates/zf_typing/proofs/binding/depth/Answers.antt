use Rattle.std.proofs.Common.{◌∙◌}
use Rattle.zf_typing.proofs.Bound.{depth_of}
use Rattle.zf_typing.proofs.binding.depth.Goals as goal

pub returns : goal.returns
returns c = c.len.ensures ∙ depth_of c.args.scope.now
