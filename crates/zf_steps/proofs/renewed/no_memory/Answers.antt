use Rattle.zf_steps.proofs.renewed.no_memory.Goals as goal

pub unreachable-requires : goal.unreachable-requires
unreachable-requires c = let first = rw c.in-DeclaredOut.is at c.requires.3 in c.requires.2 c.in-DeclaredOut.field-0 first.here
