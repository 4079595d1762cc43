use Rattle.std.proofs.Common.{rules}
use Rattle.zf_scan.proofs.Laws.{cut_whole, uncut_then}
use Rattle.zf_scan.proofs.scan.scan.Goals as goal

pub returns-in_err-next_box-clause-uncut : goal.returns-in_err-next_box-clause-uncut
returns-in_err-next_box-clause-uncut c =
    let fact = uncut_then c.args.source.now c.in_err-next_box.field-0.0 c.in_err-next_box.ensures.fault in
    search rules

pub returns-clause-cut : goal.returns-clause-cut
returns-clause-cut c = cut_whole c.args.source.now c.loop-border.border c.loop-border.tokens c.loop-border.invariant c.loop-border-test.false
