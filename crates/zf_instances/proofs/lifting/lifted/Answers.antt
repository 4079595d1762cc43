-- Predicates with names for their closed parts, or without, say what they said, and need no more components.
use Rattle.zf_instances.proofs.Prelude.{arith, List, map, Option, subst, resolved_of, Resolved, environment_of, AreLifted, IfOk-weaker, IfSome, Lifted}
use Rattle.zf_instances.proofs.Naming.{as_made, dues_at, unchanged}
use Rattle.zf_instances.proofs.lifting.lifted.Goals as goal

pub returns-then-is_hopeless : goal.returns-then-is_hopeless
returns-then-is_hopeless c =
    let e = environment_of c.args.env.now in
    let given = c.args.conjuncts.items in
    IfOk-weaker c.property_of.result _ _ (λ p h. as_made (environment_of p.env.now) e e p.conjuncts given given h.0 h.1 (unchanged e (map resolved_of given))) c.property_of.ensures

pub returns-in-None : goal.returns-in-None
returns-in-None c =
    let e = environment_of c.args.env.now in
    let given = c.args.conjuncts.items in
    IfOk-weaker c.property_of-in-None.result _ _ (λ p h. as_made (environment_of p.env.now) e e p.conjuncts given given h.0 h.1 (unchanged e (map resolved_of given)))
    c.property_of-in-None.ensures

pub property_of-requires-in-Some : goal.property_of-requires-in-Some
property_of-requires-in-Some c =
    let e = environment_of c.args.env.now in
    let l = c.in-Some.lifted in
    let found = subst (λ (o : Option Lifted). IfSome o (λ l. AreLifted (environment_of l.env.now) e (map resolved_of l.terms.items)
    (map resolved_of c.as_slice.result.now))) c.in-Some.is c.in_ok-lift.ensures in
    let each = subst (λ (ts : List Resolved). AreLifted (environment_of l.env.now) e (map resolved_of l.terms.items) (map resolved_of ts)) c.as_slice.ensures.value found in
    record { small = λ k. omega (arith, dues_at (environment_of l.env.now) e (map resolved_of l.terms.items) (map resolved_of c.args.conjuncts.items) each.each k, c.requires.small k) }

pub returns : goal.returns
returns c =
    let e = environment_of c.args.env.now in
    let l = c.in-Some.lifted in
    let found = subst (λ (o : Option Lifted). IfSome o (λ l. AreLifted (environment_of l.env.now) e (map resolved_of l.terms.items)
    (map resolved_of c.as_slice.result.now))) c.in-Some.is c.in_ok-lift.ensures in
    let each = subst (λ (ts : List Resolved). AreLifted (environment_of l.env.now) e (map resolved_of l.terms.items) (map resolved_of ts)) c.as_slice.ensures.value found in
    IfOk-weaker c.property_of-in-Some.result _ _
    (λ p h. as_made (environment_of p.env.now) (environment_of l.env.now) e p.conjuncts l.terms.items c.args.conjuncts.items h.0 h.1 each) c.property_of-in-Some.ensures
