use Rattle.zf_tree.specs.{boxes_of}
use Rattle.zf_term.specs.{globals_of}
use Rattle.zf_checker.proofs.WellTyped.{globals_well_typed}
use Rattle.zf_calls.proofs.tests.searches.globals_in.Goals as goal

pub returns : goal.returns
returns c = globals_well_typed (boxes_of c.in_ok-spec.spec) (globals_of c.in_ok-checked.checked.globals) _ c.in_ok-checked.ensures
