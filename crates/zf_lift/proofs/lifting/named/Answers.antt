use Rattle.zf_lift.proofs.Prelude.{subst, sym, Global, of-Name, reference, resolved_of, environment_of, IsLift, IsNamed, IfSome}
use Rattle.zf_lift.proofs.Wherever.{named_lift}
use Rattle.zf_lift.proofs.lifting.named.Goals as goal

pub returns-clause-same : goal.returns-clause-same
returns-clause-same c = λ d longer closed lift.
    let b = c.args.depth in
    let e = environment_of c.args.base.now in
    let f = environment_of c.args.own.now in
    let g = environment_of c.add.new.self in
    let t = resolved_of c.args.term.now in
    let part = resolved_of c.args.part in
    let counted = c.count-place.ensures in
    let has = subst (λ o. IfSome o (IsNamed b e f part t)) c.in-Some.is c.worked_out.ensures in
    subst (λ u. IsLift b g e d u t) (sym (of-Name c.span.result (Global c.count-place.result)))
    (subst (λ n. IsLift b g e d (reference c.span.result (Global n)) t) (sym counted)
    (named_lift b e f g d c.span.result part t c.in-Some.outcome longer has.1 c.in_ok-add.ensures has.0 closed lift has.2))
