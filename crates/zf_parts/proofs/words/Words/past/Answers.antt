use Rattle.zf_parts.proofs.Marking.{none_in_kept}
use Rattle.zf_parts.proofs.words.Words.past.Goals as goal

pub returns-in-Some-clause-none : goal.returns-in-Some-clause-none
returns-in-Some-clause-none c =
    none_in_kept c.args.self.now.places.items c.args.self.now.pages.items c.args.word c.in-Some.place c.in-Some.ensures c.index.result.now c.index.ensures c.past_in.result
    c.past_in.ensures.behind.1 c.past_in.ensures.none
