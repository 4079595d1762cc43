-- The schemas up to the place are listed.
use Rattle.zf_messages.proofs.Prelude.{◌++◌, ◌≡◌, drop, globals_of, schemas}
use Rattle.zf_messages.proofs.missing.schemas.Given as goal

abbrev pub invariant-loop-place : goal.invariant-loop-place
invariant-loop-place l = l.names.items ++ schemas (drop l.place (globals_of l.globals)) ≡ schemas (globals_of l.globals)
