-- The schemas of the names so far; what is still ahead decides which is the first without one.
use Rattle.zf_engine.proofs.Prelude.{List, map, Message, take, globals_of, Status, TellsNoSchema, drop, AllZip, IsAhead, named_of, IsSchemaOf, IsOfSchema}
use Rattle.zf_engine.proofs.reach.operations_in.Given as goal

abbrev pub invariant-loop-name : goal.invariant-loop-name
invariant-loop-name l =
    AllZip (IsSchemaOf (globals_of l.globals)) (take l.name-index l.names) (map named_of l.operations.items)
    × IsAhead (IsOfSchema (globals_of l.globals))
    (λ (b : List Message × Status). TellsNoSchema l.task.exploration.now.details (globals_of l.globals) b.0 b.1) l.names (drop l.name-index l.names)
