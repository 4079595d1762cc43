use Rattle.zf_graph.proofs.Seeking.{found_is_shortest, missing_is_nowhere}
use Rattle.zf_reach.proofs.laws.finds_sought.Goals as goal

pub returns-clause-found : goal.returns-clause-found
returns-clause-found g c = λ m limit. found_is_shortest _ _ _ _ _ limit (g.met.M.Machine.of_graph m) (g.met.M.Machine.decisive m)

pub returns-clause-missing : goal.returns-clause-missing
returns-clause-missing g c = λ m limit. missing_is_nowhere _ _ _ _ _ limit (g.met.M.Machine.of_graph m) (g.met.M.Machine.decisive m)
