-- Contexts, by their parts. No public clause rests on this.
use Rattle.std.specs.Prelude.{List}
use Rattle.zf_meaning.specs.Prelude.{Bor, Value}
use Rattle.zf_meaning.specs.declared.env.Env.{Env}
use Rattle.zf_meaning.specs.Environments.{Context}
use Rattle.zf_meaning.specs.Envs.{environment_of}
use Rattle.zf_meaning.specs.Places.{seen}

-- what a row and bound variables give
abbrev pub scope_of : Env → List Value → List (Bor Value) → Context
scope_of e row locals = record { environment = environment_of e; row = row; locals = seen locals }
