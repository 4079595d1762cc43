use Rattle.zf_answers.proofs.FirstEvents.{first_none, first_out, first_satisfied}
use Rattle.zf_answers.proofs.why.first_event.Goals as goal

pub returns-in_ok-satisfied_text-in-Holds : goal.returns-in_ok-satisfied_text-in-Holds
returns-in_ok-satisfied_text-in-Holds g c =
    first_satisfied c.args.subject.now c.requires.searched _ _ (g.S.Search.stage c.advance.new.self) c.requires.begins _ _ (g.met.S.Search.given c.advance.new.self)
    (rw c.in-Holds.is at c.in_ok-advance.ensures.answer) c.in_ok-satisfied_text-in-Holds.ensures

pub returns-in_ok-out_text-in-Breaks : goal.returns-in_ok-out_text-in-Breaks
returns-in_ok-out_text-in-Breaks g c =
    first_out c.args.subject.now c.requires.searched _ _ (g.S.Search.stage c.advance.new.self) c.requires.begins _ _ (g.met.S.Search.given c.advance.new.self)
    (rw c.in-Breaks.is at c.in_ok-advance.ensures.answer) c.in_ok-out_text-in-Breaks.ensures

pub returns-in-End : goal.returns-in-End
returns-in-End g c =
    first_none c.args.subject.now c.requires.searched _ _ (g.S.Search.stage c.advance.new.self) c.requires.begins (rw c.in-End.is at c.in_ok-advance.ensures.answer)
