use Rattle.zf_answers.proofs.Prelude.{◌++◌, ◌≡◌, map, drop, goes_on, schema_in, side_object}
use Rattle.zf_print.specs.{parted}
use Rattle.zf_answers.proofs.objects.append_side_objects.Given as goal

abbrev pub invariant-loop-place : goal.invariant-loop-place
invariant-loop-place l =
    l.text.items ++ goes_on l.place (map (side_object l.source (schema_in l.subject).comps) (drop l.place l.sides))
    ≡ l.fn.text.items ++ parted (map (side_object l.source (schema_in l.subject).comps) l.sides)
