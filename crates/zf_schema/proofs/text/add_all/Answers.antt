use Rattle.zf_schema.proofs.Prelude.{at_step, at_end, if_fault, inl, inr, refl, rules, plain, schema_of, resolved_of, type_of, Offence, AddsAll, CantAdd, OffendsNames, Span}
use Rattle.zf_schema.proofs.text.add_all.Goals as goal

pub loop-name-preserved : goal.loop-name-preserved
loop-name-preserved c =
    let a = schema_of c.loop-name.growing in
    let b = schema_of c.add.new.growing in
    let t = type_of c.args.ztype.now in
    let d = plain (resolved_of c.args.set.now) in
    record {
      adds = λ out r. c.loop-name.invariant.adds out (at_step (λ ns. AddsAll a ns t d out) c.args.names.now c.loop-name.name-index c.name-item.result
          c.name-item.is c.loop-name-test.true (b, c.in_ok-add.ensures.ok, r));
      offends = λ k m o. c.loop-name.invariant.offends k m (at_step (λ ns. OffendsNames a ns t d k m) c.args.names.now c.loop-name.name-index
          c.name-item.result c.name-item.is c.loop-name-test.true (inr (b, c.in_ok-add.ensures.ok, o)));
    }

pub returns-in_err-add-clause-wrong : goal.returns-in_err-add-clause-wrong
returns-in_err-add-clause-wrong c =
    let a = schema_of c.loop-name.growing in
    let t = type_of c.args.ztype.now in
    let d = plain (resolved_of c.args.set.now) in
    let step : (k : Offence) (m : Span) → CantAdd a c.name-item.result t d k m → OffendsNames (schema_of c.args.growing.now) c.args.names.now t d k m =
    λ k m o. c.loop-name.invariant.offends k m (at_step (λ ns. OffendsNames a ns t d k m) c.args.names.now c.loop-name.name-index c.name-item.result c.name-item.is c.loop-name-test.true (inl o)) in
    let fact = if_fault _ _ _ step c.in_err-add.ensures.wrong in
    search rules

pub returns-clause-ok : goal.returns-clause-ok
returns-clause-ok c =
    let a = schema_of c.loop-name.growing in
    let t = type_of c.args.ztype.now in
    let d = plain (resolved_of c.args.set.now) in
    c.loop-name.invariant.adds a (at_end (λ ns. AddsAll a ns t d a) c.args.names.now c.loop-name.name-index c.loop-name-test.false refl)
