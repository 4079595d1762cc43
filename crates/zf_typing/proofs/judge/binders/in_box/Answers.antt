use Rattle.zf_typing.proofs.Prelude.{◌∙◌, ◌≡◌, ap, None, Some, subst, IfOk-weaker, IsPart, resolved_part}
use Rattle.zf_term.specs.{part_of}
use Rattle.zf_typing.proofs.Parts.{none_kept, some_kept}
use Rattle.zf_typing.proofs.judge.binders.in_box.Goals as goal

pub returns-in_default : goal.returns-in_default
returns-in_default c = λ s n p h.
    IfOk-weaker c.new.result (λ o. o ≡ None) (λ o. part_of o ≡ resolved_part s p)
    (λ o is. ap part_of is ∙ none_kept s n p (subst (IsPart s n p) c.in_default.is h)) c.new.ensures

pub returns : goal.returns
returns c = λ s n p h.
    IfOk-weaker c.new-3.result (λ o. o ≡ Some c.in_ok-term.term) (λ o. part_of o ≡ resolved_part s p)
    (λ o is. ap part_of is ∙ some_kept s n p c.in-Some.judged c.in_ok-term.term c.in_ok-term.ensures (subst (IsPart s n p) c.in-Some.is h)) c.new-3.ensures
