use Rattle.zf_meaning.proofs.Prelude.{refl}
use Rattle.zf_meaning.proofs.Early.{only-one}
use Rattle.zf_meaning.proofs.evaluate.early.equal_to.Goals as goal

pub returns-in-Equal : goal.returns-in-Equal
returns-in-Equal c = (c.index-links-0.result, only-one c.args.links.now c.index-links-0.result c.if-links-ne1.false c.index-links-0.is, c.in-Equal.is, refl)
