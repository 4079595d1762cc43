-- None of the parameters, one more, and all.
use Rattle.zf_command.proofs.Prelude.{subst, IsCommand, take_all, new_app, with_parameters}
use Rattle.zf_command.proofs.Commands.{with_about, with_next}
use Rattle.zf_command.proofs.command.command_of.Goals as goal

pub loop-parameter-init : goal.loop-parameter-init
loop-parameter-init c = with_about _ _ _ _ (c.new.ensures.app, c.new.ensures.local) c.about-command.ensures

pub loop-parameter-preserved : goal.loop-parameter-preserved
loop-parameter-preserved c =
    with_next _ _ _ (new_app c.args.name.now) c.args.parameters.now c.loop-parameter.parameter-index _ c.loop-parameter-test.true c.loop-parameter.invariant c.arg_of.ensures c.in_ok-command.ensures

pub returns : goal.returns
returns c =
    subst (λ ps. IsCommand c.loop-parameter.command (with_parameters (new_app c.args.name.now) ps))
    (take_all c.loop-parameter.parameter-index c.args.parameters.now c.loop-parameter-test.false) c.loop-parameter.invariant
