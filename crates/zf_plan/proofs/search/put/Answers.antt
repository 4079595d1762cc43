-- What is put stands there, and nothing else changes.
use Rattle.zf_plan.proofs.Prelude.{◌∙◌, ◌∷◌, ◌++◌, ap, drop, refl, take, length-set, exchanged}
use Rattle.zf_plan.proofs.Exchanging.{passes, takes}
use Rattle.zf_plan.proofs.search.put.Goals as goal

pub returns-in-None : goal.returns-in-None
returns-in-None g c =
    let old = c.args.ranges.now.items in
    (λ others. ap (λ o. take c.args.place old ++ exchanged (drop c.args.place old) (o ∷ others)) c.in-None.is ∙ passes old others c.args.place c.requires, refl)

pub returns-in-Some : goal.returns-in-Some
returns-in-Some g c =
    let old = c.args.ranges.now.items in (
      λ others. ap (λ o. take c.args.place old ++ exchanged (drop c.args.place old) (o ∷ others)) c.in-Some.is
          ∙ takes old c.in-Some.range others c.args.place c.requires,
      length-set old c.args.place c.in-Some.range,
    )
