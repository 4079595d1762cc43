use Rattle.zf_lines.proofs.Searching.{goes_on}
use Rattle.zf_parts.proofs.Passed.{all_met, goes_on_breaking, goes_on_holding, within_breaking, within_holding}
use Rattle.zf_parts.proofs.Stepping.{goes_past}
use Rattle.zf_parts.proofs.meeting.meet_all.Goals as goal

pub meet-requires-clause-within : goal.meet-requires-clause-within
meet-requires-clause-within g c =
    within_holding _ _ _ _ _ c.requires.start _ _ _ c.bindings.invariant _ c.advance.ensures.ranges _ (g.met.S.Search.spread c.advance.new.self)
    _ (g.met.S.Search.given c.advance.new.self) (rw c.in-Holds.is at c.in_ok-advance.ensures.answer)

pub bindings-smaller-in-Continue-branch-3 : goal.bindings-smaller-in-Continue-branch-3
bindings-smaller-in-Continue-branch-3 g c = goes_on (g.S.Search.goal c.bindings.search) _ _ c.advance.ensures.ranges (rw c.in-Holds.is at c.in_ok-advance.ensures.answer)

pub bindings-preserved-in-Continue-branch-3 : goal.bindings-preserved-in-Continue-branch-3
bindings-preserved-in-Continue-branch-3 g c =
    goes_on_holding _ _ _ _ _ c.requires.start _ _ _ c.bindings.invariant _ c.advance.ensures.ranges _ (g.met.S.Search.spread c.advance.new.self)
    _ (g.met.S.Search.given c.advance.new.self) _ _ c.advance.ensures.goal (rw c.in-Holds.is at c.in_ok-advance.ensures.answer) c.in_ok-meet-in-Holds.ensures.meets

pub meet-requires-in-Breaks-clause-within : goal.meet-requires-in-Breaks-clause-within
meet-requires-in-Breaks-clause-within g c =
    within_breaking _ _ _ _ _ c.requires.start _ _ _ c.bindings.invariant _ c.advance.ensures.ranges _ (g.met.S.Search.spread c.advance.new.self)
    _ (g.met.S.Search.given c.advance.new.self) (rw c.in-Breaks.is at c.in_ok-advance.ensures.answer)

pub bindings-smaller : goal.bindings-smaller
bindings-smaller g c = goes_past (g.S.Search.goal c.bindings.search) _ _ c.advance.ensures.ranges (rw c.in-Breaks.is at c.in_ok-advance.ensures.answer)

pub bindings-preserved : goal.bindings-preserved
bindings-preserved g c =
    goes_on_breaking _ _ _ _ _ c.requires.start _ _ _ c.bindings.invariant _ c.advance.ensures.ranges _ (g.met.S.Search.spread c.advance.new.self)
    _ (g.met.S.Search.given c.advance.new.self) _ _ c.advance.ensures.goal (rw c.in-Breaks.is at c.in_ok-advance.ensures.answer) c.in_ok-meet-in-Breaks.ensures.meets

pub returns-in-End-clause-all : goal.returns-in-End-clause-all
returns-in-End-clause-all g c =
    all_met _ _ _ _ _ c.requires.start _ _ _ c.bindings.invariant (g.S.Search.stage c.advance.new.self) (rw c.in-End.is at c.in_ok-advance.ensures.answer)
