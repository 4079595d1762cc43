-- Each way out says what is written of the parts.
use Rattle.zf_parts.proofs.Prelude.{◌∙◌, refl, subst, sym, Appends, always_on_err, AppendsFront, IsPrinted, same_later, schema_of}
use Rattle.zf_parts.proofs.Fronting.{ends_at_end, fronting_first, stops_in_end, stops_now}
use Rattle.zf_parts.proofs.FrontLines.{front_line}
use Rattle.zf_parts.proofs.Passing.{as_status, ends_at_limit, ends_out, fewer_broken, fewer_held, goes_on, passes_broken, passes_held, stops_in_line, stops_in_more, stops_in_out}
use Rattle.zf_parts.proofs.Results.{known_if_ok, weaker_on_err}
use Rattle.zf_parts.proofs.fronts.show_fronts.Goals.{in-Breaks+in_ok-is_asked-in-Breaks+else-branch-2, in-Holds+in_ok-is_asked-in-Holds+else-branch, in-Holds+in_ok-is_asked-in-Holds+then-branch+in_ok-write_row-in-Holds+else-is_spent}
use Rattle.zf_parts.proofs.fronts.show_fronts.Goals as goal

pub parts-init : goal.parts-init
parts-init g c = (
  fronting_first _ _ _ _ _ _ _ c.requires.start c.requires.first.0 _ c.requires.limited,
  c.in_ok-printed.ensures (g.S.Search.stage c.args.search.now).ranges,
  c.requires.unfailed,
)

pub returns-in_err-advance-clause-err : goal.returns-in_err-advance-clause-err
returns-in_err-advance-clause-err g c = always_on_err _ (stops_now _ _ _ _ _ _ _ c.requires.start c.requires.first.0 _ _ _ _ _ c.parts.invariant.0)

pub returns-in_err-is_asked-in-Holds-clause-err : goal.returns-in_err-is_asked-in-Holds-clause-err
returns-in_err-is_asked-in-Holds-clause-err g c = always_on_err _ (stops_now _ _ _ _ _ _ _ c.requires.start c.requires.first.0 _ _ _ _ _ c.parts.invariant.0)

pub returns-in_err-is_asked-in-Breaks-clause-err : goal.returns-in_err-is_asked-in-Breaks-clause-err
returns-in_err-is_asked-in-Breaks-clause-err g c = always_on_err _ (stops_now _ _ _ _ _ _ _ c.requires.start c.requires.first.0 _ _ _ _ _ c.parts.invariant.0)

pub write_row-requires-clause-printed : goal.write_row-requires-clause-printed
write_row-requires-clause-printed g c =
    subst (λ rs. IsPrinted c.args.style.now.format c.args.style.now.elements.now (schema_of c.args.parts.schema.now).comps rs c.parts.printed)
    (sym (g.met.S.Search.spread c.advance.new.self ∙ c.advance.ensures.ranges.ranges)) c.parts.invariant.1

pub returns-in_err-write_row-in-Holds-clause-err : goal.returns-in_err-write_row-in-Holds-clause-err
returns-in_err-write_row-in-Holds-clause-err g c =
    let line = front_line c.args.style.now.format c.args.style.now.elements.now _ c.args.parts.places.now c.requires.first.0 c.requires.first.1 (g.S.Row.values c.advance.new.self) in
    always_on_err _ (stops_in_line _ _ _ _ _ _ _ c.requires.start c.requires.first.0 _ _ _ _ _ c.parts.invariant.0 (g.S.Search.stage c.advance.new.self) (g.S.Row.values c.advance.new.self) (g.met.S.Search.given c.advance.new.self)
    (rw c.in-Holds.is at c.in_ok-advance.ensures.answer) (rw c.if-branch.true at c.in_ok-is_asked-in-Holds.ensures) _
    (subst (AppendsFront _ _) line c.in_err-write_row-in-Holds.ensures.err))

pub returns-then-is_spent-clause-ok : goal.returns-then-is_spent-clause-ok
returns-then-is_spent-clause-ok g c =
    let line = front_line c.args.style.now.format c.args.style.now.elements.now _ c.args.parts.places.now c.requires.first.0 c.requires.first.1 (g.S.Row.values c.advance.new.self) in
    let written = subst (Appends _ _) line c.in_ok-write_row-in-Holds.ensures.ok in
    known_if_ok _ _ (λ status is appends. as_status _ _ _ _ _ _ _ _ _ status _ is (ends_at_limit _ _ _ _ _ _ _ c.requires.start c.requires.first.0 _ _ _ _ _ c.parts.invariant.0 (g.S.Search.stage c.advance.new.self) (g.S.Row.values c.advance.new.self) (g.met.S.Search.given c.advance.new.self)
    (rw c.in-Holds.is at c.in_ok-advance.ensures.answer) (rw c.if-branch.true at c.in_ok-is_asked-in-Holds.ensures)
    _ _ c.one_less-left.ensures written c.if-is_spent.ensures _ appends)) c.write_last.ensures.ok c.write_last.ensures.status

pub returns-then-is_spent-clause-err : goal.returns-then-is_spent-clause-err
returns-then-is_spent-clause-err g c =
    let line = front_line c.args.style.now.format c.args.style.now.elements.now _ c.args.parts.places.now c.requires.first.0 c.requires.first.1 (g.S.Row.values c.advance.new.self) in
    let written = subst (Appends _ _) line c.in_ok-write_row-in-Holds.ensures.ok in
    weaker_on_err _ (stops_in_more _ _ _ _ _ _ _ c.requires.start c.requires.first.0 _ _ _ _ _ c.parts.invariant.0 (g.S.Search.stage c.advance.new.self) (g.S.Row.values c.advance.new.self) (g.met.S.Search.given c.advance.new.self)
    (rw c.in-Holds.is at c.in_ok-advance.ensures.answer) (rw c.if-branch.true at c.in_ok-is_asked-in-Holds.ensures)
    _ _ c.one_less-left.ensures written c.if-is_spent.ensures _) c.write_last.ensures.err

pub returns-then-branch-2-clause-ok : goal.returns-then-branch-2-clause-ok
returns-then-branch-2-clause-ok g c =
    known_if_ok _ _ (λ status is appends. as_status _ _ _ _ _ _ _ _ _ status _ is (ends_out _ _ _ _ _ _ _ c.requires.start c.requires.first.0 _ _ _ _ _ c.parts.invariant.0 (g.S.Search.stage c.advance.new.self) (g.S.Row.values c.advance.new.self) (g.met.S.Search.given c.advance.new.self)
    (rw c.in-Breaks.is at c.in_ok-advance.ensures.answer) (rw c.if-branch-2.true at c.in_ok-is_asked-in-Breaks.ensures) _ appends))
    c.write_out.ensures.ok c.write_out.ensures.status

pub returns-then-branch-2-clause-err : goal.returns-then-branch-2-clause-err
returns-then-branch-2-clause-err g c =
    weaker_on_err _ (stops_in_out _ _ _ _ _ _ _ c.requires.start c.requires.first.0 _ _ _ _ _ c.parts.invariant.0 (g.S.Search.stage c.advance.new.self) (g.S.Row.values c.advance.new.self) (g.met.S.Search.given c.advance.new.self)
    (rw c.in-Breaks.is at c.in_ok-advance.ensures.answer) (rw c.if-branch-2.true at c.in_ok-is_asked-in-Breaks.ensures) _) c.write_out.ensures.err

pub returns-in-End-clause-ok : goal.returns-in-End-clause-ok
returns-in-End-clause-ok g c =
    known_if_ok _ _ (λ status is appends. as_status _ _ _ _ _ _ _ _ _ status _ is (ends_at_end _ _ _ _ _ _ _ c.requires.start c.requires.first.0 _ _ _ _ _ c.parts.invariant.0 (g.S.Search.stage c.advance.new.self)
    (rw c.in-End.is at c.in_ok-advance.ensures.answer) _ appends)) c.write_last-in-End.ensures.ok c.write_last-in-End.ensures.status

pub returns-in-End-clause-err : goal.returns-in-End-clause-err
returns-in-End-clause-err g c =
    weaker_on_err _ (stops_in_end _ _ _ _ _ _ _ c.requires.start c.requires.first.0 _ _ _ _ _ c.parts.invariant.0 (g.S.Search.stage c.advance.new.self) (rw c.in-End.is at c.in_ok-advance.ensures.answer) _) c.write_last-in-End.ensures.err

pub parts-smaller : goal.parts-smaller
parts-smaller g c =
    let same = c.pass.ensures.ranges.ranges ∙ c.advance.ensures.ranges.ranges in
    elim c.match-branch-3.branch [
      | in-Holds+in_ok-is_asked-in-Holds+then-branch+in_ok-write_row-in-Holds+else-is_spent w ↦ fewer_held _ _ _ _ _ _ _ c.requires.start c.requires.first.0 _ _ _ _ _ c.parts.invariant.0 (g.S.Search.stage c.advance.new.self) (g.S.Row.values c.advance.new.self) (g.met.S.Search.given c.advance.new.self)
          (rw w.in-Holds.is at c.in_ok-advance.ensures.answer) (g.S.Search.stage c.pass.new.self) _ c.pass.ensures.passed same
      | in-Holds+in_ok-is_asked-in-Holds+else-branch w ↦ fewer_held _ _ _ _ _ _ _ c.requires.start c.requires.first.0 _ _ _ _ _ c.parts.invariant.0 (g.S.Search.stage c.advance.new.self) (g.S.Row.values c.advance.new.self) (g.met.S.Search.given c.advance.new.self)
          (rw w.in-Holds.is at c.in_ok-advance.ensures.answer) (g.S.Search.stage c.pass.new.self) _ c.pass.ensures.passed same
      | in-Breaks+in_ok-is_asked-in-Breaks+else-branch-2 w ↦ fewer_broken _ _ _ _ _ _ _ c.requires.start c.requires.first.0 _ _ _ _ _ c.parts.invariant.0 (g.S.Search.stage c.advance.new.self) (g.S.Row.values c.advance.new.self) (g.met.S.Search.given c.advance.new.self)
          (rw w.in-Breaks.is at c.in_ok-advance.ensures.answer) (g.S.Search.stage c.pass.new.self) _ c.pass.ensures.passed same
    ]

pub parts-preserved : goal.parts-preserved
parts-preserved g c =
    let line = front_line c.args.style.now.format c.args.style.now.elements.now _ c.args.parts.places.now c.requires.first.0 c.requires.first.1 (g.S.Row.values c.advance.new.self) in
    let now = c.pass.ensures.goal ∙ c.advance.ensures.goal in
    let ranges = same_later _ _ _ c.advance.ensures.ranges c.pass.ensures.ranges in
    elim c.match-branch-3.branch [
      | in-Holds+in_ok-is_asked-in-Holds+then-branch+in_ok-write_row-in-Holds+else-is_spent w ↦ rw w.left-is (rw w.writer-is (rw w.printed-is (
        goes_on _ _ _ _ _ _ _ c.requires.start c.requires.first.0 _ _ _ _ _ c.parts.invariant.0 (g.S.Search.stage c.advance.new.self) (g.S.Row.values c.advance.new.self) (g.met.S.Search.given c.advance.new.self)
            (rw w.in-Holds.is at c.in_ok-advance.ensures.answer) (rw w.if-branch.true at w.in_ok-is_asked-in-Holds.ensures) _ _ w.one_less-left.ensures
            (subst (Appends _ _) line w.in_ok-write_row-in-Holds.ensures.ok) w.if-is_spent.ensures (g.S.Search.stage c.pass.new.self) _ refl c.pass.ensures.passed _ now ranges,
        subst (λ rs. IsPrinted c.args.style.now.format c.args.style.now.elements.now (schema_of c.args.parts.schema.now).comps rs w.write_row.new.printed)
            (g.met.S.Search.spread c.advance.new.self ∙ sym c.pass.ensures.ranges.ranges) w.in_ok-write_row-in-Holds.ensures.printed,
        w.in_ok-write_row-in-Holds.ensures.count,
      )))
      | in-Holds+in_ok-is_asked-in-Holds+else-branch w ↦ rw w.left-is (rw w.writer-is (rw w.printed-is (
        passes_held _ _ _ _ _ _ _ c.requires.start c.requires.first.0 _ _ _ _ _ c.parts.invariant.0 (g.S.Search.stage c.advance.new.self) (g.S.Row.values c.advance.new.self) (g.met.S.Search.given c.advance.new.self)
            (rw w.in-Holds.is at c.in_ok-advance.ensures.answer) (rw w.if-branch.false at w.in_ok-is_asked-in-Holds.ensures)
            (g.S.Search.stage c.pass.new.self) _ refl c.pass.ensures.passed _ now ranges,
        subst (λ rs. IsPrinted c.args.style.now.format c.args.style.now.elements.now (schema_of c.args.parts.schema.now).comps rs c.parts.printed)
            (sym ranges.ranges) c.parts.invariant.1,
        c.parts.invariant.2,
      )))
      | in-Breaks+in_ok-is_asked-in-Breaks+else-branch-2 w ↦ rw w.left-is (rw w.writer-is (rw w.printed-is (
        passes_broken _ _ _ _ _ _ _ c.requires.start c.requires.first.0 _ _ _ _ _ c.parts.invariant.0 (g.S.Search.stage c.advance.new.self) (g.S.Row.values c.advance.new.self) (g.met.S.Search.given c.advance.new.self)
            (rw w.in-Breaks.is at c.in_ok-advance.ensures.answer) (rw w.if-branch-2.false at w.in_ok-is_asked-in-Breaks.ensures)
            (g.S.Search.stage c.pass.new.self) _ refl c.pass.ensures.passed _ now ranges,
        subst (λ rs. IsPrinted c.args.style.now.format c.args.style.now.elements.now (schema_of c.args.parts.schema.now).comps rs c.parts.printed)
            (sym ranges.ranges) c.parts.invariant.1,
        c.parts.invariant.2,
      )))
    ]
