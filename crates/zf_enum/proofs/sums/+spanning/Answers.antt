use Rattle.zf_enum.proofs.Prelude.{subst, sym, ResolvedTree, resolved_of, environment_of, IfOk-weaker, IsIntervalOf}
use Rattle.zf_enum.proofs.Balanced.{name_is, number_is, minus_is, function_is, number_interval, ahead_interval, negated_interval, combined_interval}
use Rattle.zf_enum.proofs.sums.+spanning.Goals as goal

pub returns-in-Component : goal.returns-in-Component
returns-in-Component t c =
    let e = environment_of c.args.env.now in
    let ranges = c.args.ranges.now in
    let places = c.args.places.now in
    IfOk-weaker c.interval_ahead.result _ _
    (λ s h. subst (λ (u : ResolvedTree). IsIntervalOf e u ranges places s) (sym
    (name_is c.args.term.now c.in-Name.field-0 c.in-Component.place c.in-Name.reference c.in-Name.is c.in-Component.is))
    (ahead_interval e ranges places c.in-Name.field-0 c.in-Component.place s c.requires.within h))
    c.interval_ahead.ensures

pub returns-in-Number : goal.returns-in-Number
returns-in-Number t c =
    let e = environment_of c.args.env.now in
    let ranges = c.args.ranges.now in
    let places = c.args.places.now in
    IfOk-weaker c.interval_of_number.result _ _
    (λ s h. subst (λ (u : ResolvedTree). IsIntervalOf e u ranges places s) (sym (number_is c.args.term.now c.in-Number.field-0 c.in-Number.n c.in-Number.is))
    (number_interval e ranges places c.in-Number.field-0 c.in-Number.n s h.0 h.1))
    c.interval_of_number.ensures

pub returns-in_ok-of-in-Sign : goal.returns-in_ok-of-in-Sign
returns-in_ok-of-in-Sign t c =
    let e = environment_of c.args.env.now in
    let ranges = c.args.ranges.now in
    let places = c.args.places.now in
    let x = c.get-in-Sign.result.now in
    IfOk-weaker c.multiplied.result _ _
    (λ s h. subst (λ (u : ResolvedTree). IsIntervalOf e u ranges places s) (sym
    (minus_is c.args.term.now x c.in-Unary.of c.in-Unary.field-0 c.in-Unary.op c.in-Sign.sign c.in-Unary.is c.get-in-Sign.ensures c.in-Sign.is
    (c.is_minus.ensures c.if-not-is_minus.false)))
    (negated_interval e ranges places c.in-Unary.field-0 (resolved_of x) c.in_ok-of-in-Sign.of s h.0 h.1 c.in_ok-of-in-Sign.ensures))
    c.multiplied.ensures

pub returns-in_ok-right-in-Function : goal.returns-in_ok-right-in-Function
returns-in_ok-right-in-Function t c =
    let e = environment_of c.args.env.now in
    let ranges = c.args.ranges.now in
    let places = c.args.places.now in
    let x = c.get-in-Function.result.now in
    let y = c.get-in-Function-2.result.now in
    IfOk-weaker c.combined.result _ _
    (λ s h. subst (λ (u : ResolvedTree). IsIntervalOf e u ranges places s)
    (sym (function_is c.args.term.now x y c.in-Binary.left c.in-Binary.right c.in-Binary.field-0 c.in-Binary.op c.in-Function.op c.in-Binary.is
    c.get-in-Function.ensures c.get-in-Function-2.ensures c.in-Function.is))
    (combined_interval e ranges places c.in-Binary.field-0 c.in-Function.op (resolved_of x)
    (resolved_of y) c.in_ok-left-in-Function.left c.in_ok-right-in-Function.right s h.1 c.in_ok-left-in-Function.ensures c.in_ok-right-in-Function.ensures))
    c.combined.ensures
