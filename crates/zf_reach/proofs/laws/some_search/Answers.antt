use Rattle.zf_graph.proofs.SomeSearch.{somehow_searched}
use Rattle.zf_reach.proofs.laws.some_search.Goals as goal

pub returns : goal.returns
returns g c = λ m limit each told some. somehow_searched _ _ _ _ limit each told some
