use Rattle.zf_walk.specs.declared.judge.Truth.TheVariants.{False}
use Rattle.zf_walk.proofs.Marking.{unseen-nothing}
use Rattle.zf_walk.proofs.seen.Seen.all.Goals as goal

pub returns : goal.returns
returns c = λ i h. unseen-nothing i False h
