use Rattle.zf_resolved.proofs.Prelude.{ap, ◌≡◌, moved, numbering, resolved_of}
use Rattle.std.proofs.lemmas.Result.{IfOk-weaker}
use Rattle.zf_resolved.proofs.Joining.{kept}
use Rattle.zf_resolved.proofs.conjunct.placed.Goals as goal

pub returns-in-None : goal.returns-in-None
returns-in-None c =
    IfOk-weaker c.copy.result (λ t. t ≡ c.args.term.now) (λ t. resolved_of t ≡ moved (numbering c.args.places.now) (resolved_of c.args.term.now))
    (λ t e. kept t (resolved_of c.args.term.now) c.args.places.now c.in-None.is (ap resolved_of e)) c.copy.ensures
