use Rattle.zf_parse.proofs.BoxByBox.{read_whole}
use Rattle.zf_parse.proofs.reading.read_boxes.Goals as goal

pub returns : goal.returns
returns c = read_whole c.args.source.now c.loop-border.border c.loop-border.boxes c.loop-border.invariant c.loop-border-test.false
