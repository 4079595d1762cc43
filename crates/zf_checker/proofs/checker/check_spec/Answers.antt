use Rattle.zf_checker.proofs.Prelude.{map, subst, box_of, globals_of, fault_of, IsChecked, Checked}
use Rattle.zf_checker.proofs.Running.{run_all}
use Rattle.zf_checker.proofs.checker.check_spec.Goals as goal

pub returns : goal.returns
returns c =
    let nothing : Checked = record { globals = c.in_ok-globals.globals; faults = c.new.result } in
    let end = c.check_boxes.new.checked in
    subst (λ bs. IsChecked (map box_of bs) (globals_of end.globals) (map fault_of end.faults)) c.as_slice.ensures
    (run_all nothing end (map box_of c.as_slice.result.now) c.in_ok-globals.ensures c.new.ensures c.in_ok-check_boxes.ensures.runs)
