use Rattle.zf_unfold.proofs.Prelude.{◌∙◌, named_by, sym}
use Rattle.zf_unfold.proofs.Written.{implied_seen}
use Rattle.zf_unfold.proofs.instance.implied.Goals as goal

pub returns-in_ok-right-in-Some : goal.returns-in_ok-right-in-Some
returns-in_ok-right-in-Some c =
    implied_seen (named_by c.args.renaming) c.args.of.now.span c.args.of.now.constraint.now c.in-Some.constraint c.get-in-Some.result.now
    c.in_ok-renamed-in-Some.field-0 c.in_ok-left-in-Some.left c.args.of.now.body.now c.in_ok-body.body c.in_ok-right-in-Some.right
    (sym c.get.ensures ∙ c.in-Some.is) c.get-in-Some.ensures c.in_ok-renamed-in-Some.ensures c.in_ok-left-in-Some.ensures c.in_ok-body.ensures c.in_ok-right-in-Some.ensures
