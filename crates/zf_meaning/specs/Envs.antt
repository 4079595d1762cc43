-- The program's environments as environments.
use Rattle.std.specs.Prelude.{List, ◌++◌}
use Rattle.zf_meaning.specs.Prelude.{globals_of, Outcome}
use Rattle.zf_meaning.specs.declared.env.Env.{Env}
use Rattle.zf_meaning.specs.Environments.{Environment}

abbrev pub environment_of : Env → Environment
environment_of e = record { globals = globals_of e.globals.now; sizes = e.sizes.items; outcomes = e.outcomes.items; numbers = e.numbers }

-- the environment in which further names, after all others, have these outcomes
abbrev pub longer : Environment → List Outcome → Environment
longer e os = record { globals = e.globals; sizes = e.sizes; outcomes = e.outcomes ++ os; numbers = e.numbers }
