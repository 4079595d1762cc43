use Rattle.std.proofs.Common.{refl}
use Rattle.zf_typing.proofs.Bound.{err_then, more_bound, ok_then, same_bound}
use Rattle.zf_typing.proofs.binding.bind.Goals as goal

pub returns-clause-err : goal.returns-clause-err
returns-clause-err c = err_then c.append.result _ _ (λ e. same_bound c.args.scope.now _ refl refl e) c.append.ensures.err

pub returns-clause-ok : goal.returns-clause-ok
returns-clause-ok c = ok_then c.append.result _ _ (λ e. more_bound c.args.scope.now _ c.args.variables refl refl e) c.append.ensures.ok
