use Rattle.zf_why.proofs.Decided.{holds, breaks, ends}
use Rattle.zf_why.proofs.setting.finds.Goals as goal

pub returns-in-Holds : goal.returns-in-Holds
returns-in-Holds g c = λ e a held begun. holds e a held _ _ begun (g.S.Search.stage c.advance.new.self) (rw c.in-Holds.is at c.in_ok-advance.ensures.answer)

pub returns-in-Breaks : goal.returns-in-Breaks
returns-in-Breaks g c = λ e a held begun. breaks e a held _ _ begun (g.S.Search.stage c.advance.new.self) (rw c.in-Breaks.is at c.in_ok-advance.ensures.answer)

pub returns-in-End : goal.returns-in-End
returns-in-End g c = λ e a held begun. ends e a held _ _ begun (g.S.Search.stage c.advance.new.self) (rw c.in-End.is at c.in_ok-advance.ensures.answer)
