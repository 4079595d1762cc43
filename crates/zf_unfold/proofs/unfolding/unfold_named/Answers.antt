use Rattle.zf_unfold.proofs.Prelude.{List, map, Option, resolved_of, subst, sym, environment_of, AreLifted, IfSome, Lifted, Resolved}
use Rattle.zf_unfold.proofs.Results.{still_lifted}
use Rattle.zf_unfold.proofs.unfolding.unfold_named.Goals as goal

pub returns-in-Some : goal.returns-in-Some
returns-in-Some c =
    let e = environment_of c.args.env.now in
    let f = environment_of c.in-Some.lifted.env.now in
    let us = map resolved_of c.args.terms.now in
    let found = subst (λ (o : Option Lifted). IfSome o (λ l. AreLifted (environment_of l.env.now) e (map resolved_of l.terms.items) us)) c.in-Some.is c.in_ok-lift.ensures in
    let given = subst (λ (ts : List Resolved). AreLifted f e (map resolved_of ts) us) (sym c.deref.ensures.value) found in
    still_lifted c.unfold_all-in-Some.result e f (map resolved_of c.deref.result.now) us given c.unfold_all-in-Some.ensures
