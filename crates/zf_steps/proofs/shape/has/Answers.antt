use Rattle.zf_steps.proofs.Prelude.{map, comp_of}
use Rattle.zf_steps.proofs.Shapes.{found_has}
use Rattle.zf_steps.proofs.shape.has.Goals as goal

pub returns-in-Some : goal.returns-in-Some
returns-in-Some c =
    found_has (map comp_of c.args.components.now) (comp_of c.args.wanted.now) (comp_of c.in-Some.component.now) c.in-Some.field-0-0 c.same.result
    (rw c.as_slice.ensures at c.in-Some.ensures) c.same.ensures
