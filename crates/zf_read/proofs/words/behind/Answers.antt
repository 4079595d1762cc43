use Rattle.zf_read.proofs.Prelude.{Decides-eqb, strip_prefix_is, IsNoItem}
use Rattle.zf_read.proofs.words.behind.Goals as goal

pub returns : goal.returns
unfolding IsNoItem
returns c = strip_prefix_is Decides-eqb c.args.bytes.now c.args.front.now c.strip_prefix.result c.strip_prefix.ensures.cases
