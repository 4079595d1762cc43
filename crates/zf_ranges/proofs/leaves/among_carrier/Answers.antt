use Rattle.zf_ranges.proofs.Prelude.{◌∙◌, sym, IfOk-weaker, type_of, IsCarrier, environment_of}
use Rattle.zf_ranges.proofs.Lacks.{told}
use Rattle.zf_ranges.proofs.Single.{filtered_by_carrier, typed_of_carrier, described_carrier_is_out, one_described}
use Rattle.zf_ranges.proofs.leaves.among_carrier.Goals as goal

pub returns-then-has_endless-clause-is : goal.returns-then-has_endless-clause-is
returns-then-has_endless-clause-is c =
    typed_of_carrier (environment_of c.args.env.now) (type_of c.args.ztype.now) c.args.values.now c.in_ok-kept.field-0.items (sym c.has_endless.ensures ∙ c.if-has_endless.true) c.in_ok-kept.ensures

pub returns-clause-is : goal.returns-clause-is
returns-clause-is c =
    let e = environment_of c.args.env.now in
    let t = type_of c.args.ztype.now in
    let o = c.in_ok-carrier_of in
    IfOk-weaker c.members_among.result _ _
    (λ xs h. filtered_by_carrier e t c.of-carrier.result c.args.values.now xs.items (sym c.has_endless.ensures ∙ c.if-has_endless.false)
    (one_described (IsCarrier e t) o.field-0 c.of-carrier.result o.ensures c.of-carrier.ensures) h)
    c.members_among.ensures.is

pub returns-clause-out : goal.returns-clause-out
returns-clause-out c =
    let e = environment_of c.args.env.now in
    let t = type_of c.args.ztype.now in
    let o = c.in_ok-carrier_of in
    told c.members_among.result _ _ (described_carrier_is_out e t c.of-carrier.result (sym c.has_endless.ensures ∙ c.if-has_endless.false)
    (one_described (IsCarrier e t) o.field-0 c.of-carrier.result o.ensures c.of-carrier.ensures)) c.members_among.ensures.out
