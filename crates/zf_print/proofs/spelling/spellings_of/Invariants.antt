use Rattle.zf_print.proofs.Prelude.{◌++◌, ◌≡◌, drop, globals_of, spellings}
use Rattle.zf_print.proofs.spelling.spellings_of.Given as goal

abbrev pub invariant-loop-place : goal.invariant-loop-place
invariant-loop-place l = l.made.items ++ spellings (drop l.place (globals_of l.globals)) ≡ spellings (globals_of l.globals)
