use Rattle.zf_checker.proofs.Prelude.{◌+◌, arith, drop, map, box_of, at_end, at_step, items, items_in, Runs}
use Rattle.zf_checker.proofs.Running.{run_none, run_on}
use Rattle.zf_checker.proofs.checker.check_boxes.Goals as goal

pub loop-each-preserved : goal.loop-each-preserved
loop-each-preserved c = record {
  runs = λ end runs.
      let before = c.loop-each.checked in
      let whole = c.args.boxes.now in
      let i = c.loop-each.each-index in
      let step = run_on before c.check_box.new.checked end (items_in (box_of c.each-item.result)) (items (map box_of (drop (i + 1) whole))) c.in_ok-check_box.ensures.runs runs in
      c.loop-each.invariant.runs end (at_step (λ bs. Runs before (items (map box_of bs)) end) whole i c.each-item.result c.each-item.is (omega arith) step);
  numbered = c.check_box.ensures.numbered;
}

pub returns-clause-runs : goal.returns-clause-runs
returns-clause-runs c =
    let end = c.loop-each.checked in
    c.loop-each.invariant.runs end
    (at_end (λ bs. Runs end (items (map box_of bs)) end) c.args.boxes.now c.loop-each.each-index (omega arith) (run_none end))
