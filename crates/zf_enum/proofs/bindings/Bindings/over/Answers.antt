use Rattle.zf_enum.proofs.Prelude.{exact}
use Rattle.zf_enum.proofs.bindings.Bindings.over.Goals as goal

pub start-requires-clause-ties : goal.start-requires-clause-ties
start-requires-clause-ties c = exact
