use Rattle.zf_typing.proofs.Prelude.{refl, constant}
use Rattle.zf_term.proofs.ResolvedSeen as seen
use Rattle.zf_typing.proofs.judge.constant_term.Goals as goal

pub returns : goal.returns
returns c = λ s. c.placed.ensures s (constant c.args.place.span c.args.constant) c.in_ok-sort.ensures (seen.of-Constant c.args.place.span c.args.constant) refl
