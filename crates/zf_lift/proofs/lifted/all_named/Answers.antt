use Rattle.zf_lift.proofs.Prelude.{List, map, subst, sym, resolved_of, ResolvedTree, Environment, environment_of, AreLifted, IsLifted, IsLonger, IsLift}
use Rattle.zf_lift.proofs.Each.{each_also}
use Rattle.zf_lift.proofs.Longer.{itself, further}
use Rattle.zf_lift.proofs.Wherever.{is_lifted}
use Rattle.zf_lift.proofs.lifted.all_named.Goals as goal

pub returns : goal.returns
returns c =
    let e = environment_of c.args.env.now in
    let own = c.all_lifted.new.own in
    let f = environment_of own.env in
    let x = c.in_ok-terms in
    let copied = subst (λ y. IsLonger e y) (sym c.in_ok-copy.ensures) (itself e) in
    let terms : List ResolvedTree = map resolved_of x.terms.items in
    let each = each_also (IsLift 0 f e own.is_closed) (IsLifted f e) terms (map resolved_of c.args.terms.now) (is_lifted f e own.is_closed) (x.ensures.same copied) in
    subst (λ (y : Environment). AreLifted y e terms (map resolved_of c.args.terms.now)) (sym c.in_ok-env.ensures) (record { longer = further e _ f copied x.ensures.grows.0; each = each })
