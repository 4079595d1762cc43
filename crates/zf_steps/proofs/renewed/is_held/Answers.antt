-- What is there is held.
use Rattle.zf_steps.proofs.Prelude.{◌∙◌, sym, held_got}
use Rattle.zf_steps.proofs.Renewing.{not_there}
use Rattle.zf_steps.proofs.renewed.is_held.Goals as goal

pub returns-in-Some : goal.returns-in-Some
returns-in-Some c = λ there none.
    not_there c.in-Some.value.now (sym c.is_some.ensures ∙ there)
    (sym (held_got c.args.held.now c.args.place c.in-Some.value.now c.in-Some.ensures.lookup.3.0 c.in-Some.ensures.lookup.1) ∙ none)
