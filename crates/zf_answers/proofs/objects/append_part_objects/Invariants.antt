use Rattle.zf_answers.proofs.Prelude.{◌++◌, ◌≡◌, map, drop, goes_on, part_object, schema_in}
use Rattle.zf_print.specs.{parted}
use Rattle.zf_answers.proofs.objects.append_part_objects.Given as goal

abbrev pub invariant-loop-place : goal.invariant-loop-place
invariant-loop-place l =
    l.text.items ++ goes_on l.place (map (part_object l.source (schema_in l.subject).comps) (drop l.place l.parts))
    ≡ l.fn.text.items ++ parted (map (part_object l.source (schema_in l.subject).comps) l.parts)
