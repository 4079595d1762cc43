use Rattle.zf_schema.proofs.Prelude.{at_step, at_end, if_fault, map, refl, rules, decl_of, globals_of, schema_of, Offence, Declares, CantDeclare, OffendsDecls, Span}
use Rattle.zf_schema.proofs.Texts.{first_declares, later_declares}
use Rattle.zf_schema.proofs.text.declare_all.Goals as goal

pub loop-decl-preserved : goal.loop-decl-preserved
loop-decl-preserved c =
    let g = globals_of c.args.globals.now in
    let a = schema_of c.loop-decl.growing in
    let b = schema_of c.declare.new.growing in
    record {
      declares = λ out r. c.loop-decl.invariant.declares out (at_step (λ ds. Declares g a (map decl_of ds) out) c.args.decls.now c.loop-decl.decl-index
          c.decl-item.result c.decl-item.is c.loop-decl-test.true (b, c.in_ok-declare.ensures.ok, r));
      offends = λ k m o. c.loop-decl.invariant.offends k m (at_step (λ ds. OffendsDecls g a (map decl_of ds) k m) c.args.decls.now c.loop-decl.decl-index
          c.decl-item.result c.decl-item.is c.loop-decl-test.true (later_declares g a _ b _ k m c.in_ok-declare.ensures.ok o));
    }

pub returns-in_err-declare-clause-wrong : goal.returns-in_err-declare-clause-wrong
returns-in_err-declare-clause-wrong c =
    let g = globals_of c.args.globals.now in
    let a = schema_of c.loop-decl.growing in
    let step : (k : Offence) (m : Span) → CantDeclare g a (decl_of c.decl-item.result) k m → OffendsDecls g (schema_of c.args.growing.now) (map decl_of c.args.decls.now) k m =
    λ k m o. c.loop-decl.invariant.offends k m (at_step (λ ds. OffendsDecls g a (map decl_of ds) k m) c.args.decls.now c.loop-decl.decl-index
    c.decl-item.result c.decl-item.is c.loop-decl-test.true (first_declares g a _ _ k m o)) in
    let fact = if_fault _ _ _ step c.in_err-declare.ensures.wrong in
    search rules

pub returns-clause-ok : goal.returns-clause-ok
returns-clause-ok c =
    let g = globals_of c.args.globals.now in
    let a = schema_of c.loop-decl.growing in
    c.loop-decl.invariant.declares a (at_end (λ ds. Declares g a (map decl_of ds) a) c.args.decls.now c.loop-decl.decl-index c.loop-decl-test.false refl)
