use Rattle.zf_unfold.proofs.Prelude.{◌∙◌, ◌≡◌, ap, arith, environment_of, length, resolved_of, subst, sym, IsSetNamed, Option, Value, IfSome}
use Rattle.zf_unfold.proofs.Results.{members_made, plain_made}
use Rattle.zf_unfold.proofs.unfolding.quantified.Goals as goal

pub returns-then-not-is_worth-clause-same : goal.returns-then-not-is_worth-clause-same
returns-then-not-is_worth-clause-same c = λ e b. plain_made c.outside.result c.args.count e (environment_of c.args.own.now) c.args.term.now c.outside.ensures b

pub returns-in_default-clause-same : goal.returns-in_default-clause-same
returns-in_default-clause-same c =
    let out = c.outside-in_default in λ e b. plain_made out.result c.args.count e (environment_of c.args.own.now) c.args.term.now out.ensures b

pub returns-in_default-named-clause-same : goal.returns-in_default-named-clause-same
returns-in_default-named-clause-same c =
    let out = c.outside-in_default-named in λ e b. plain_made out.result c.args.count e (environment_of c.args.own.now) c.args.term.now out.ensures b

pub returns-in_default-checked_sub-clause-same : goal.returns-in_default-checked_sub-clause-same
returns-in_default-checked_sub-clause-same c =
    let out = c.outside-in_default-checked_sub in λ e b. plain_made out.result c.args.count e (environment_of c.args.own.now) c.args.term.now out.ensures b

pub returns-clause-same : goal.returns-clause-same
returns-clause-same c =
    let u = c.in-Some.universal in
    let f = environment_of c.args.own.now in
    let named = IsSetNamed c.args.count f (resolved_of u.first.now.set) in
    let set = subst (λ (o : Option Value). IfSome o named) c.in-Some-named.is c.in_ok-named.ensures in
    let many : length c.members.result.now ≡ length c.members-2.result.now = ap length (c.members.ensures.is ∙ sym c.members-2.ensures.is) in
    λ e b. members_made c.instances.result c.args.count c.count-first.result c.in-Some-checked_sub.more e f (environment_of c.add_members.new.own)
    c.in-Some-named.set c.members-2.result.now u c.args.term.now c.in-Some.ensures.is c.in-Some.ensures.variables b set c.count-first.ensures
    c.members-2.ensures.is c.in_ok-add_members.ensures (omega (arith, many, c.in-Some-checked_sub.ensures)) c.instances.ensures
