use Rattle.zf_scan.proofs.Prelude.{◌++◌, map, token_at}
use Rattle.zf_scan.proofs.BoxParts.{none_further, one_further, all_further}
use Rattle.zf_scan.proofs.scan.cut_rest.Goals as goal

pub loop-border-init : goal.loop-border-init
loop-border-init c = λ tokens up. none_further c.args.source.now c.args.border.now tokens up

pub next_box-requires : goal.next_box-requires
next_box-requires c = let h = c.loop-border.invariant c.requires.0 c.requires.1 in (c.requires.0 ++ h.0, h.2)

pub loop-border-preserved : goal.loop-border-preserved
loop-border-preserved c = λ tokens up.
    one_further c.args.source.now c.loop-border.border tokens (c.loop-border.invariant tokens up) c.next_box.new.border
    (map (token_at c.args.source.now) c.next_box.new.symbols.items) c.in_ok-next_box.ensures.one c.in_ok-next_box.ensures.cut

pub returns-clause-cut : goal.returns-clause-cut
returns-clause-cut c = λ tokens up. all_further c.args.source.now c.loop-border.border tokens (c.loop-border.invariant tokens up) c.loop-border-test.false
