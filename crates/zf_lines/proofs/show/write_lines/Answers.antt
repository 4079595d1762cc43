use Rattle.zf_lines.proofs.Prelude.{◌∙◌, rules, subst, sym, schema_of, IsPrinted}
use Rattle.zf_lines.proofs.Fronts.{always_on_err}
use Rattle.zf_lines.proofs.Searching.{goes_on, same_later}
use Rattle.zf_lines.proofs.Standing.{stands_first, stops_here, stops_in_line, goes_on_line, ends_at_limit, ends_out, ends_at_end}
use Rattle.zf_lines.proofs.show.write_lines.Goals as goal

pub returns-in_err-printed-clause-err : goal.returns-in_err-printed-clause-err
returns-in_err-printed-clause-err g c =
    always_on_err _ (stops_here _ _ _ _ _ c.requires.start _ _ _ _ _ (stands_first _ _ _ _ _ c.requires.start _ c.requires.limited))

pub returns-in_err-printed-clause-count : goal.returns-in_err-printed-clause-count
returns-in_err-printed-clause-count g c = let none = c.requires.unfailed in search rules

pub lines-init : goal.lines-init
lines-init g c = (stands_first _ _ _ _ _ c.requires.start _ c.requires.limited, c.requires.unfailed, c.in_ok-printed.ensures _)

pub returns-in_err-advance-clause-err : goal.returns-in_err-advance-clause-err
returns-in_err-advance-clause-err g c = always_on_err _ (stops_here _ _ _ _ _ c.requires.start _ _ _ _ _ c.lines.invariant.0)

pub returns-in_err-advance-clause-count : goal.returns-in_err-advance-clause-count
returns-in_err-advance-clause-count g c = let none = c.lines.invariant.1 in search rules

pub write_row-requires-clause-unfailed : goal.write_row-requires-clause-unfailed
write_row-requires-clause-unfailed g c = c.lines.invariant.1

pub write_row-requires-clause-printed : goal.write_row-requires-clause-printed
write_row-requires-clause-printed g c =
    subst (λ ranges. IsPrinted c.args.style.now.format c.args.style.now.elements.now (schema_of c.args.flat.now).comps ranges c.lines.printed)
    (sym (g.met.S.Search.spread c.advance.new.self ∙ c.advance.ensures.ranges.ranges)) c.lines.invariant.2

pub returns-in_err-write_row-in-Holds-clause-err :
    goal.returns-in_err-write_row-in-Holds-clause-err
returns-in_err-write_row-in-Holds-clause-err g c =
    always_on_err _ (stops_in_line _ _ _ _ _ c.requires.start _ _ _ _ _ c.lines.invariant.0 (g.S.Search.stage c.advance.new.self) _
    (g.met.S.Search.given c.advance.new.self) (rw c.in-Holds.is at c.in_ok-advance.ensures.answer) _ c.in_err-write_row-in-Holds.ensures.err)

pub one_less-left-requires : goal.one_less-left-requires
one_less-left-requires g c = c.lines.invariant.0.some

pub returns-then-is_spent-clause-ok : goal.returns-then-is_spent-clause-ok
returns-then-is_spent-clause-ok g c =
    ends_at_limit _ _ _ _ _ c.requires.start _ _ _ _ _ c.lines.invariant.0 _ _ (g.met.S.Search.given c.advance.new.self)
    (rw c.in-Holds.is at c.in_ok-advance.ensures.answer) _ _ c.one_less-left.ensures
    c.in_ok-write_row-in-Holds.ensures.ok c.requires.limited (search rules)

pub returns-then-is_spent-clause-same : goal.returns-then-is_spent-clause-same
returns-then-is_spent-clause-same g c = (c.advance.ensures.goal ∙ c.lines.invariant.0.goal, same_later _ _ _ c.lines.invariant.0.same c.advance.ensures.ranges)

pub lines-smaller : goal.lines-smaller
lines-smaller g c = goes_on (g.S.Search.goal c.lines.search) _ _ c.advance.ensures.ranges (rw c.in-Holds.is at c.in_ok-advance.ensures.answer)

pub lines-preserved : goal.lines-preserved
lines-preserved g c = (
  goes_on_line _ _ _ _ _ c.requires.start _ _ _ _ _ c.lines.invariant.0 _ _ (g.met.S.Search.given c.advance.new.self) (rw c.in-Holds.is at c.in_ok-advance.ensures.answer) _ _ c.one_less-left.ensures
      c.in_ok-write_row-in-Holds.ensures.ok _ c.advance.ensures.goal c.advance.ensures.ranges (search rules),
  (search rules),
  subst (λ ranges. IsPrinted c.args.style.now.format c.args.style.now.elements.now (schema_of c.args.flat.now).comps ranges c.write_row.new.printed)
      (g.met.S.Search.spread c.advance.new.self) c.in_ok-write_row-in-Holds.ensures.printed,
)

pub returns-in-Breaks-clause-ok : goal.returns-in-Breaks-clause-ok
returns-in-Breaks-clause-ok g c = ends_out _ _ _ _ _ c.requires.start _ _ _ _ _ c.lines.invariant.0 _ (rw c.in-Breaks.is at c.in_ok-advance.ensures.answer)

pub returns-in-Breaks-clause-same : goal.returns-in-Breaks-clause-same
returns-in-Breaks-clause-same g c = (c.advance.ensures.goal ∙ c.lines.invariant.0.goal, same_later _ _ _ c.lines.invariant.0.same c.advance.ensures.ranges)

pub returns-in-Breaks-clause-count : goal.returns-in-Breaks-clause-count
returns-in-Breaks-clause-count g c = c.lines.invariant.1

pub returns-in-End-clause-ok : goal.returns-in-End-clause-ok
returns-in-End-clause-ok g c = ends_at_end _ _ _ _ _ c.requires.start _ _ _ _ _ c.lines.invariant.0 _ (rw c.in-End.is at c.in_ok-advance.ensures.answer)

pub returns-in-End-clause-same : goal.returns-in-End-clause-same
returns-in-End-clause-same g c = (c.advance.ensures.goal ∙ c.lines.invariant.0.goal, same_later _ _ _ c.lines.invariant.0.same c.advance.ensures.ranges)

pub returns-in-End-clause-count : goal.returns-in-End-clause-count
returns-in-End-clause-count g c = c.lines.invariant.1
