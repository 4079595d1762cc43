use Rattle.zf_schema.proofs.Prelude.{at_step, at_end, if_fault, map, refl, rules, tree_of, globals_of, schema_of, Offence, Constrains, CantConstrain, OffendsPredicates, Span}
use Rattle.zf_schema.proofs.Texts.{first_constrains, later_constrains}
use Rattle.zf_schema.proofs.text.constrain_all.Goals as goal

pub loop-predicate-preserved : goal.loop-predicate-preserved
loop-predicate-preserved c =
    let g = globals_of c.args.globals.now in
    let a = schema_of c.loop-predicate.growing in
    let b = schema_of c.constrain.new.growing in
    record {
      constrains = λ out r. c.loop-predicate.invariant.constrains out (at_step
          (λ ds. Constrains g a (map tree_of ds) out) c.args.predicates.now c.loop-predicate.predicate-index c.predicate-item.result c.predicate-item.is
          c.loop-predicate-test.true (b, c.in_ok-constrain.ensures.ok, r));
      offends = λ k m o. c.loop-predicate.invariant.offends k m (at_step
          (λ ds. OffendsPredicates g a (map tree_of ds) k m) c.args.predicates.now c.loop-predicate.predicate-index c.predicate-item.result c.predicate-item.is
          c.loop-predicate-test.true (later_constrains g a _ b _ k m c.in_ok-constrain.ensures.ok o));
    }

pub returns-in_err-constrain-clause-wrong : goal.returns-in_err-constrain-clause-wrong
returns-in_err-constrain-clause-wrong c =
    let g = globals_of c.args.globals.now in
    let a = schema_of c.loop-predicate.growing in
    let step : (k : Offence) (m : Span) → CantConstrain g a (tree_of c.predicate-item.result) k m → OffendsPredicates g (schema_of c.args.growing.now) (map tree_of c.args.predicates.now) k m =
    λ k m o. c.loop-predicate.invariant.offends k m (at_step (λ ds. OffendsPredicates g a (map tree_of ds) k m) c.args.predicates.now
    c.loop-predicate.predicate-index c.predicate-item.result c.predicate-item.is c.loop-predicate-test.true (first_constrains g a _ _ k m o)) in
    let fact = if_fault _ _ _ step c.in_err-constrain.ensures.wrong in
    search rules

pub returns-clause-ok : goal.returns-clause-ok
returns-clause-ok c =
    let g = globals_of c.args.globals.now in
    let a = schema_of c.loop-predicate.growing in
    c.loop-predicate.invariant.constrains a (at_end (λ ds. Constrains g a (map tree_of ds) a) c.args.predicates.now c.loop-predicate.predicate-index c.loop-predicate-test.false refl)
