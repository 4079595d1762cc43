use Rattle.zf_unfold.proofs.Prelude.{◌++◌, ◌+◌, ◌∙◌, ◌∷◌, [], ap, arith, List, None, named, renamed, resolved_of, ◌-◌, Range}
use Rattle.zf_unfold.proofs.Written.{others_none, others_some}
use Rattle.zf_unfold.proofs.instance.others.Goals.{then-of-gt1+in_ok-set+in_ok-push, else-of-gt1}
use Rattle.zf_unfold.proofs.instance.others.Goals as goal

pub returns : goal.returns
returns c =
    let first = c.args.of.now.first.now in
    let f = named c.args.count None in
    let t = renamed f (resolved_of first.set) in
    let rest = c.args.of.now.others.now in
    let made = c.add_renamed.new.all in
    elim c.if-of-gt1.branch [
      | then-of-gt1+in_ok-set+in_ok-push w ↦
          let r : Range = record { variables = first.variables - 1; set = w.in_ok-set.set } in
          others_some f first.variables t rest c.if-of-gt1.all made r w.if-of-gt1.true (omega (arith, w.if-of-gt1.true)) w.in_ok-set.ensures
          (w.all-is ∙ w.in_ok-push.ensures.ok ∙ ap (λ (rs : List Range). rs ++ r ∷ []) c.in_ok-all.ensures) c.in_ok-add_renamed.ensures
      | else-of-gt1 w ↦
          others_none f first.variables t rest c.if-of-gt1.all made (omega (arith, w.if-of-gt1.false)) (w.all-is ∙ c.in_ok-all.ensures) c.in_ok-add_renamed.ensures
    ]
