use Rattle.std.proofs.Common.{refl}
use Rattle.zf_typing.proofs.Bound.{less_bound}
use Rattle.zf_typing.proofs.binding.unbind.Goals as goal

pub returns : goal.returns
returns c = λ s vs h e. less_bound c.args.scope.now _ s vs c.args.outside refl refl c.truncate.ensures h e
