use Rattle.zf_schema.proofs.Prelude.{◌≡◌, map, take, spelling}
use Rattle.zf_schema.proofs.paragraph.all_spelled.Given as goal

abbrev pub invariant-loop-name : goal.invariant-loop-name
invariant-loop-name l = l.all ≡ map spelling (take l.name-index l.names)
