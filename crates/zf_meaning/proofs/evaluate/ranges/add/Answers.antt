use Rattle.zf_meaning.proofs.Prelude.{◌∙◌, ap, refl, spread, Spread}
use Rattle.zf_meaning.proofs.Gathering.{spread-push}
use Rattle.zf_meaning.proofs.evaluate.ranges.add.Goals as goal

pub returns-in_ok-push-in-Is : goal.returns-in_ok-push-in-Is
returns-in_ok-push-in-Is c =
    let s : Spread = record { variables = c.args.variables; set = c.in-Is.set } in
    rw c.in-Is.is (refl, ap spread c.in_ok-push-in-Is.ensures.items ∙ spread-push c.args.declared.now.sets.items s)
