use Rattle.zf_scan.proofs.Prelude.{◌∙◌, ap, arith, length, length-drop, step_len}
use Rattle.zf_scan.proofs.Runs.{run_more, run_done}
use Rattle.zf_scan.proofs.pieces.run_len.Goals as goal

pub returns-then-more-eq0-clause-value : goal.returns-then-more-eq0-clause-value
returns-then-more-eq0-clause-value c = run_done c.args.run c.args.bytes.now c.loop-run.n c.loop-run.invariant.0 c.step-more.result
    (c.step-more.ensures.value ∙ ap (step_len c.args.run) c.after.ensures) c.if-more-eq0.true

pub loop-run-preserved : goal.loop-run-preserved
loop-run-preserved c = (
  run_more c.args.run c.args.bytes.now c.loop-run.n c.loop-run.invariant.0 c.step-more.result (c.step-more.ensures.value ∙ ap (step_len c.args.run) c.after.ensures),
  omega (arith, c.step-more.ensures.within, ap length c.after.ensures, length-drop c.loop-run.n c.args.bytes.now),
)
