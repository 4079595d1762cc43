use Rattle.zf_graph.proofs.Existing.{somehow_written}
use Rattle.zf_reach.proofs.laws.some_text.Goals as goal

pub returns : goal.returns
returns g c = λ m limit each some. somehow_written _ _ limit each some
