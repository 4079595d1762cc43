use Rattle.zf_typing.proofs.Prelude.{ap, refl, numeral, typed}
use Rattle.zf_term.proofs.ResolvedSeen as seen
use Rattle.zf_term.proofs.TypesSeen.{of-Int}
use Rattle.zf_typing.proofs.judge.number.Goals as goal

pub returns : goal.returns
returns c = λ s. c.placed.ensures s (numeral c.args.place.span c.args.value) (ap typed of-Int) (seen.of-Number c.args.place.span c.args.value) refl
