use Rattle.zf_read.proofs.HeldSoFar.{none_begins, of_ends, sliced}
use Rattle.zf_read.proofs.held.is_word.Goals as goal

pub returns-in-Some : goal.returns-in-Some
returns-in-Some c = of_ends c.ends.result c.args.name.now _ _ c.in-Some.rest.now (sliced c.args.text.now c.args.place) c.in-Some.ensures c.ends.ensures

pub returns-in-None : goal.returns-in-None
returns-in-None c = none_begins c.args.name.now _ _ (sliced c.args.text.now c.args.place) c.in-None.ensures
