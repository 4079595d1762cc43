use Rattle.zf_unfold.proofs.Prelude.{environment_of, IfOk-weaker}
use Rattle.zf_unfold.proofs.Arms.{bare, joined, opposed}
use Rattle.zf_unfold.proofs.Names.{base_later}
use Rattle.zf_unfold.proofs.Results.{nothing_new, plain_made}
use Rattle.zf_unfold.proofs.WrittenOut.{unfold_later}
use Rattle.zf_unfold.proofs.unfolding.+once.Goals as goal

pub returns-in-Bracket-clause-same : goal.returns-in-Bracket-clause-same
returns-in-Bracket-clause-same t c =
    let i = c.in-Bracket in
    λ e b. IfOk-weaker c.once.result _ _ (λ part h. bare _ e i.field-0 i.inner c.get.result.now part c.args.term.now i.is c.get.ensures h) (c.once.ensures.same e b)

pub returns-in_ok-new-in-Not-clause-same : goal.returns-in_ok-new-in-Not-clause-same
returns-in_ok-new-in-Not-clause-same t c =
    let i = c.in-Unary in
    let x = c.in_ok-of-in-Not in
    λ e b. opposed _ e i.span i.op i.of c.get-in-Not.result.now x.of c.in_ok-new-in-Not.field-0 c.args.term.now i.is c.in-Not.is c.get-in-Not.ensures
    c.in_ok-new-in-Not.ensures (x.ensures.same e b)

pub returns-in_ok-right-in-Connective-2-clause-same : goal.returns-in_ok-right-in-Connective-2-clause-same
returns-in_ok-right-in-Connective-2-clause-same t c =
    let i = c.in-Binary in
    let k = c.in-Connective in
    let x = c.in_ok-left-in-Connective in
    let y = c.in_ok-right-in-Connective in
    λ e b. joined _ e i.span i.op k.connective i.left c.get-in-Connective.result.now x.left c.in_ok-left-in-Connective-2.left i.right
    c.get-in-Connective-2.result.now y.right c.in_ok-right-in-Connective-2.right c.args.term.now i.is k.is c.get-in-Connective.ensures
    c.in_ok-left-in-Connective-2.ensures c.get-in-Connective-2.ensures c.in_ok-right-in-Connective-2.ensures
    (unfold_later _ _ e _ _ y.ensures.grows (x.ensures.same e b)) (y.ensures.same e (base_later _ e _ _ b x.ensures.grows))

pub returns-in_default : goal.returns-in_default
returns-in_default t c =
    let out = c.outside-in_default in record {
      grows = nothing_new out.result (environment_of c.args.own.now);
      same = λ e b. plain_made out.result c.args.count e (environment_of c.args.own.now) c.args.term.now out.ensures b;
    }

pub returns-in_default-op : goal.returns-in_default-op
returns-in_default-op t c =
    let out = c.outside in record {
      grows = nothing_new out.result (environment_of c.args.own.now);
      same = λ e b. plain_made out.result c.args.count e (environment_of c.args.own.now) c.args.term.now out.ensures b;
    }

pub returns-in_default-op-2 : goal.returns-in_default-op-2
returns-in_default-op-2 t c =
    let out = c.outside-in_default-op-2 in record {
      grows = nothing_new out.result (environment_of c.args.own.now);
      same = λ e b. plain_made out.result c.args.count e (environment_of c.args.own.now) c.args.term.now out.ensures b;
    }
