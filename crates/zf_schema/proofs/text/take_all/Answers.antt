use Rattle.zf_schema.proofs.Prelude.{at_step, at_end, if_fault, inl, inr, map, refl, rules, schema_of, resolved_of, Offence, TakesAll, CantTake, OffendsConjuncts, Span}
use Rattle.zf_schema.proofs.text.take_all.Goals as goal

pub loop-conjunct-preserved : goal.loop-conjunct-preserved
loop-conjunct-preserved c =
    let a = schema_of c.loop-conjunct.growing in
    let b = schema_of c.take.new.growing in
    record {
      takes = λ out r. c.loop-conjunct.invariant.takes out (at_step (λ ts. TakesAll a (map resolved_of ts) out) c.args.conjuncts.now
          c.loop-conjunct.conjunct-index c.conjunct-item.result c.conjunct-item.is c.loop-conjunct-test.true (b, c.in_ok-take.ensures.ok, r));
      offends = λ k m o. c.loop-conjunct.invariant.offends k m (at_step (λ ts. OffendsConjuncts a (map resolved_of ts) k m) c.args.conjuncts.now
          c.loop-conjunct.conjunct-index c.conjunct-item.result c.conjunct-item.is c.loop-conjunct-test.true (inr (b, c.in_ok-take.ensures.ok, o)));
    }

pub returns-in_err-take-clause-wrong : goal.returns-in_err-take-clause-wrong
returns-in_err-take-clause-wrong c =
    let a = schema_of c.loop-conjunct.growing in
    let step : (k : Offence) (m : Span) → CantTake a (resolved_of c.conjunct-item.result) k m → OffendsConjuncts (schema_of c.args.growing.now) (map resolved_of c.args.conjuncts.now) k m =
    λ k m o. c.loop-conjunct.invariant.offends k m (at_step (λ ts. OffendsConjuncts a (map resolved_of ts) k m) c.args.conjuncts.now
    c.loop-conjunct.conjunct-index c.conjunct-item.result c.conjunct-item.is c.loop-conjunct-test.true (inl o)) in
    let fact = if_fault _ _ _ step c.in_err-take.ensures.wrong in
    search rules

pub returns-clause-ok : goal.returns-clause-ok
returns-clause-ok c =
    let a = schema_of c.loop-conjunct.growing in
    c.loop-conjunct.invariant.takes a (at_end (λ ts. TakesAll a (map resolved_of ts) a) c.args.conjuncts.now c.loop-conjunct.conjunct-index c.loop-conjunct-test.false refl)
