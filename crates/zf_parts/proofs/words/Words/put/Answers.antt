use Rattle.zf_parts.proofs.Prelude.{rules, word_at}
use Rattle.zf_parts.proofs.Marking.{put_here, put_others}
use Rattle.zf_parts.proofs.words.Words.put.Goals as goal

pub returns-clause-there : goal.returns-clause-there
returns-clause-there c =
    put_here c.open.new.self.places.items c.open.new.self.pages.items c.args.word c.in_ok-place.place c.in_ok-place.ensures.kept
    c.index_mut-page.result.now c.index_mut-page.ensures.value c.args.bits (search rules)

pub returns-clause-others : goal.returns-clause-others
returns-clause-others c =
    put_others c.open.new.self.places.items c.open.new.self.pages.items c.args.word c.in_ok-place.place c.in_ok-place.ensures.kept
    c.index_mut-page.result.now c.index_mut-page.ensures.value c.args.bits (word_at c.args.self.now) c.in_ok-place.ensures.same
