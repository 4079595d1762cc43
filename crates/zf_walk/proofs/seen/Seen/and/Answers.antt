use Rattle.zf_walk.proofs.Marking.{and-has, or-has}
use Rattle.zf_walk.proofs.seen.Seen.and.Goals as goal

pub returns : goal.returns
returns c = record {
  refuted = λ i h. or-has c.args.self.falses c.args.other.falses i h;
  held = λ i h. and-has c.args.self.trues c.args.other.trues i h;
}
