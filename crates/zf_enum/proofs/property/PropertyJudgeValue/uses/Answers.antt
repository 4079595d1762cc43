use Rattle.zf_enum.proofs.Prelude.{◌∙◌, ap, sym, uses_of}
use Rattle.zf_enum.proofs.Judging.{at_place}
use Rattle.zf_enum.proofs.property.PropertyJudgeValue.uses.Goals as goal

pub returns : goal.returns
returns c = c.uses.ensures ∙ sym (ap (λ p. uses_of p c.args.component) (at_place c.args.self.now.conjuncts c.args.conjunct c.get.result.now c.get.ensures c.requires))
