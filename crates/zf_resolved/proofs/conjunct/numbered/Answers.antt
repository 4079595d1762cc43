use Rattle.zf_resolved.proofs.Prelude.{refl, resolved_of}
use Rattle.zf_resolved.proofs.Joining.{kept}
use Rattle.zf_resolved.proofs.conjunct.numbered.Goals as goal

pub returns-in-None : goal.returns-in-None
returns-in-None c = kept c.args.term (resolved_of c.args.term) c.args.places.now c.in-None.is refl
