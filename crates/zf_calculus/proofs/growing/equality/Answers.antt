use Rattle.zf_calculus.proofs.Prelude.{◌∙◌, ◌≡◌, IfOk-weaker, conjunct_of, resolved_of, equality}
use Rattle.zf_term.specs.declared.resolved.Resolved.TheVariants as v
use Rattle.zf_calculus.proofs.Equalities.{equality_seen}
use Rattle.zf_calculus.proofs.growing.equality.Goals as goal

pub returns : goal.returns
returns c =
    let seen = equality_seen c.args.span c.args.place c.args.other c.in_ok-left.left c.in_ok-new.field-0 c.in_ok-left.ensures (c.in_ok-new.ensures ∙ c.in_ok-links.ensures) in
    IfOk-weaker c.of-2.result (λ t. conjunct_of t ≡ resolved_of (v.Chain c.args.span c.in_ok-left.left c.in_ok-new.field-0))
    (λ t. conjunct_of t ≡ equality c.args.span c.args.place c.args.other) (λ t e. e ∙ seen) c.of-2.ensures
