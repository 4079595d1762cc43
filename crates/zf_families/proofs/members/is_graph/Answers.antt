use Rattle.zf_families.proofs.Prelude.{members, IsGraph}
use Rattle.zf_families.proofs.Tested.{never, graph_length}
use Rattle.zf_families.proofs.members.is_graph.Goals as goal

pub returns-then-r-a : goal.returns-then-r-a
returns-then-r-a c = never (IsGraph (members c.args.b.now) c.args.a.now c.args.r.now) (λ g. c.if-r-a.true (graph_length (members c.args.b.now) c.args.a.now c.args.r.now g))
