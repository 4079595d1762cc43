use Rattle.zf_lines.proofs.Searching.{goes_on}
use Rattle.zf_parts.proofs.Standing.{ends_here, goes_on_breaking, goes_on_holding, stands_first}
use Rattle.zf_parts.proofs.Stepping.{goes_past}
use Rattle.zf_parts.proofs.collecting.collect.Goals as goal

pub bindings-init : goal.bindings-init
bindings-init g c = stands_first _ _ _ _ _ c.requires _ c.new-collected.ensures.empty

pub bindings-smaller-in-Continue-branch-3 : goal.bindings-smaller-in-Continue-branch-3
bindings-smaller-in-Continue-branch-3 g c = goes_on (g.S.Search.goal c.bindings.search) _ _ c.advance.ensures.ranges (rw c.in-Holds.is at c.in_ok-advance.ensures.answer)

pub bindings-preserved-in-Continue-branch-3 : goal.bindings-preserved-in-Continue-branch-3
bindings-preserved-in-Continue-branch-3 g c =
    goes_on_holding _ _ _ _ _ c.requires _ _ _ c.bindings.invariant _ _ (g.met.S.Search.given c.advance.new.self) _ _ c.advance.ensures.goal c.advance.ensures.ranges
    (rw c.in-Holds.is at c.in_ok-advance.ensures.answer) c.in_ok-add-in-Holds.ensures

pub bindings-smaller : goal.bindings-smaller
bindings-smaller g c = goes_past (g.S.Search.goal c.bindings.search) _ _ c.advance.ensures.ranges (rw c.in-Breaks.is at c.in_ok-advance.ensures.answer)

pub bindings-preserved : goal.bindings-preserved
bindings-preserved g c =
    goes_on_breaking _ _ _ _ _ c.requires _ _ _ c.bindings.invariant _ _ (g.met.S.Search.given c.advance.new.self) _ _ c.advance.ensures.goal c.advance.ensures.ranges
    (rw c.in-Breaks.is at c.in_ok-advance.ensures.answer) c.in_ok-add-in-Breaks.ensures

pub returns-in-End : goal.returns-in-End
returns-in-End g c = ends_here _ _ _ _ _ c.requires _ _ _ c.bindings.invariant (g.S.Search.stage c.advance.new.self) (rw c.in-End.is at c.in_ok-advance.ensures.answer)
