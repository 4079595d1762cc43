-- The command with its subcommands.
use Rattle.std.proofs.Common.{ap}
use Rattle.zf_command.proofs.Commands.{with_one_sub}
use Rattle.zf_command.proofs.command.zf.Goals as goal

pub returns : goal.returns
returns c =
    let one = with_one_sub _ _ _ _ _ c.in_ok-top_command.ensures c.in_ok-check_command.ensures c.in_ok-subcommand.ensures in
    let two = with_one_sub _ _ _ _ _ one c.in_ok-show_command.ensures c.in_ok-subcommand-2.ensures in
    let three = with_one_sub _ _ _ _ _ two c.in_ok-why_command.ensures c.in_ok-subcommand-3.ensures in
    let all = with_one_sub _ _ _ _ _ three c.in_ok-reach_command.ensures c.in_ok-command.ensures in
    (all.0, all.1, ap (λ a. a.top.subcommand_required) all.0)
