use Rattle.zf_checker.proofs.Prelude.{◌≡◌, drop, map, box_of, globals_of, next_number, items, Runs, Checked}
use Rattle.zf_checker.proofs.checker.check_boxes.Given as goal

abbrev pub invariant-loop-each : goal.invariant-loop-each
invariant-loop-each l = record {
  runs : (end : Checked) → Runs l.checked (items (map box_of (drop l.each-index l.boxes))) end → Runs l.initial.checked (items (map box_of l.boxes)) end;
  numbered : l.next ≡ next_number (globals_of l.checked.globals);
}
