use Rattle.zf_typing.proofs.Prelude.{◌∙◌, sym, true≢false, too_large, TypeNodes, Offends}
use Rattle.zf_typing.proofs.Judging.{judges_err, told}
use Rattle.zf_typing.proofs.judge.made.Goals as goal

pub returns-then-not-is_small : goal.returns-then-not-is_small
returns-then-not-is_small c = λ s e is large kept span.
    let n = c.args.place.need in
    judges_err s n e c.refused.result
    (told c.refused.result (too_large TypeNodes) c.args.place.span (Offends s n e) c.refused.ensures (large (λ m. true≢false (sym (c.is_small.ensures.1 m) ∙ c.if-not-is_small.true))))

pub returns : goal.returns
returns c = λ s e is large kept span. c.placed.ensures s e (is (c.is_small.ensures.0 c.if-not-is_small.false)) kept span
