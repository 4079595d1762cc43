-- Without quantifiers that are written out, the terms are the conjuncts.
use Rattle.zf_instances.proofs.Prelude.{◌∙◌, ap, List, map, Option, subst, conjunct_of, resolved_of, ResolvedTree, environment_of, AreLifted, IfSome, Lifted}
use Rattle.zf_instances.proofs.Naming.{unchanged}
use Rattle.zf_instances.proofs.lifting.unfolded.Goals as goal

pub returns-in-Some : goal.returns-in-Some
returns-in-Some c =
    let e = environment_of c.args.env.now in
    let l = c.in-Some.unfolded in
    let given = map resolved_of c.deref.result.now in
    let found = subst (λ (o : Option Lifted). IfSome o (λ l. AreLifted (environment_of l.env.now) e (map resolved_of l.terms.items) given)) c.in-Some.is c.unfold.ensures in
    let terms = ap (map resolved_of) c.deref.ensures.value ∙ c.in_ok-terms.ensures ∙ ap (map conjunct_of) (c.as_slice.ensures ∙ c.in_ok-conjuncts.ensures) in
    subst (λ (ps : List ResolvedTree). AreLifted (environment_of l.env.now) e (map resolved_of l.terms.items) ps) terms found

pub returns : goal.returns
returns c =
    let e = environment_of c.args.env.now in
    let terms = map resolved_of c.in_ok-terms.terms.items in
    subst (λ (ps : List ResolvedTree). AreLifted e e terms ps) (c.in_ok-terms.ensures ∙ ap (map conjunct_of) (c.as_slice.ensures ∙ c.in_ok-conjuncts.ensures)) (unchanged e terms)
