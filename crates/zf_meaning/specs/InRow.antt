-- The context of a row: these components are bound, and no variables; and what stands after variables.
use Rattle.std.specs.Prelude.{◌≡◌, ℕ, List, [], length}
use Rattle.zf_meaning.specs.Prelude.{ResolvedTree, Value, Outcome}
use Rattle.zf_meaning.specs.Environments.{Environment, Context}
use Rattle.zf_meaning.specs.Meaning.{HasOutcome}

abbrev pub in_row : Environment → List Value → Context
in_row e vs = record { environment = e; row = vs; locals = [] }

-- o is the outcome of the expression after n bound variables, whatever these are
unfoldable pub IsBehind : Environment → List Value → ℕ → ResolvedTree → Outcome → Type 0
IsBehind e vs n t o = (locals : List Value) → length locals ≡ n → HasOutcome (record { environment = e; row = vs; locals = locals }) t o
