use Rattle.law_decided.proofs.Items.{item_judged}
use Rattle.law_decided.proofs.every_item_is_judged.Goals as goal

pub returns : goal.returns
returns c = item_judged
