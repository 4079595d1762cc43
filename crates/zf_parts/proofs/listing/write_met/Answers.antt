-- Each way out says what is written of the parts.
use Rattle.zf_parts.proofs.Prelude.{◌<◌, ◌∙◌, ◌≡◌, ap, arith, subst, sym, ◌≤◌, Appends, always_on_err, IsPrinted, AreFree, counted, part_wording, ranges_at, total, schema_of, picked}
use Rattle.zf_parts.proofs.Counting.{at_number}
use Rattle.zf_parts.proofs.Passing.{as_status}
use Rattle.zf_parts.proofs.Results.{known_if_ok, weaker_on_err}
use Rattle.zf_parts.proofs.Unwritten.{ends_at_limit, ends_there, goes_on, listing_first, same_end, stops_by, stops_in_more, stops_in_row}
use Rattle.zf_parts.proofs.listing.write_met.Goals as goal

pub parts-init : goal.parts-init
parts-init g c = (
  listing_first _ _ _ _ _ _ _ _ _ c.requires.limited,
  c.in_ok-printed.ensures (ranges_at (g.S.Search.stage c.args.search.now).ranges c.args.wanted.parts.places.now),
  c.requires.unfailed,
  c.in_ok-row.ensures.0 ∙ ap (λ rs. ranges_at rs c.args.wanted.parts.places.now) c.ranges-ranges.ensures.is,
  c.in_ok-row.ensures.1,
  omega arith,
)

pub next-number-requires-clause-low : goal.next-number-requires-clause-low
next-number-requires-clause-low g c = c.parts.invariant.0.low

pub write_end-requires : goal.write_end-requires
write_end-requires g c = record { unfailed = c.parts.invariant.2 }

pub returns-then-number-met-clause-ok : goal.returns-then-number-met-clause-ok
returns-then-number-met-clause-ok g c =
    let free = subst (AreFree c.args.met.now.marks c.parts.from) c.if-number-met.true c.next-number.ensures.free in
    known_if_ok _ _ (λ status is appends. as_status _ _ _ _ _ _ _ _ _ status _ is
    (ends_there (part_wording c.args.style.now.format c.args.style.now.elements.now (schema_of c.args.wanted.parts.schema.now).comps (schema_of c.args.wanted.parts.flat.now).comps) _ _ _ _ _ _ _ c.requires.marked _ _ _ _ c.parts.invariant.0 free _ (subst (Appends _ _) (same_end _ _ (schema_of c.args.wanted.parts.schema.now).comps _ c.args.met.now.out) appends)))
    c.write_end.ensures.ok c.write_end.ensures.status

pub returns-then-number-met-clause-err : goal.returns-then-number-met-clause-err
returns-then-number-met-clause-err g c =
    let free = subst (AreFree c.args.met.now.marks c.parts.from) c.if-number-met.true c.next-number.ensures.free in
    weaker_on_err _ (stops_by (part_wording c.args.style.now.format c.args.style.now.elements.now (schema_of c.args.wanted.parts.schema.now).comps (schema_of c.args.wanted.parts.flat.now).comps) _ _ _ _ _ _ _ c.requires.marked _ _ _ _ c.parts.invariant.0 free _ _ (same_end _ _ (schema_of c.args.wanted.parts.schema.now).comps _ c.args.met.now.out)) c.write_end.ensures.err

pub go_on-requires-clause-fits : goal.go_on-requires-clause-fits
go_on-requires-clause-fits g c =
    let marked = c.requires.marked in
    let weighs = marked.weights in
    let within = c.next-number.ensures.within in
    let near : c.next-number.result < c.args.met.now.end = omega (arith, within.1, c.if-number-met.false) in
    let low : c.parts.last ≤ c.next-number.result = omega (arith, within.0, c.parts.invariant.5) in
    omega (arith, near, low, marked.low, weighs.count, c.parts.invariant.4, ap total c.parts.invariant.3)

pub go_on-requires-clause-few : goal.go_on-requires-clause-few
go_on-requires-clause-few g c =
    let weighs = c.requires.marked.weights in
    omega (arith, weighs.count, weighs.few, ap total c.parts.invariant.3)

pub write_row-requires-clause-unfailed : goal.write_row-requires-clause-unfailed
write_row-requires-clause-unfailed g c = c.parts.invariant.2

pub write_row-requires-clause-printed : goal.write_row-requires-clause-printed
write_row-requires-clause-printed g c =
    subst (λ rs. IsPrinted c.args.style.now.format c.args.style.now.elements.now (schema_of c.args.wanted.parts.schema.now).comps rs c.parts.printed)
    (sym (c.go_on.ensures.ranges ∙ c.parts.invariant.3)) c.parts.invariant.1

pub returns-in_err-write_row-clause-err : goal.returns-in_err-write_row-clause-err
returns-in_err-write_row-clause-err g c =
    let within = c.next-number.ensures.within in
    let near : c.next-number.result < c.args.met.now.end = omega (arith, within.1, c.if-number-met.false) in
    let low : c.parts.last ≤ c.next-number.result = omega (arith, within.0, c.parts.invariant.5) in
    let number = at_number (ranges_at (g.S.Search.stage c.args.search.now).ranges c.args.wanted.parts.places.now) c.go_on.new.self.ranges c.parts.row.ranges c.go_on.new.self.digits c.parts.row.digits c.next-number.result c.parts.last
    c.go_on.ensures.ranges c.parts.invariant.3 c.go_on.ensures.number c.go_on.ensures.counted c.parts.invariant.4 low in
    let free = c.next-number.ensures.free in
    let there = c.next-number.ensures.marked near in
    always_on_err _ (stops_in_row (part_wording c.args.style.now.format c.args.style.now.elements.now (schema_of c.args.wanted.parts.schema.now).comps (schema_of c.args.wanted.parts.flat.now).comps) _ _ _ _ _ _ _ c.requires.marked _ _ _ _ c.parts.invariant.0 c.next-number.result within.0 near free there (picked c.go_on.new.self.ranges c.go_on.new.self.digits) number _ c.in_err-write_row.ensures.err)

pub one_less-left-requires : goal.one_less-left-requires
one_less-left-requires g c = c.parts.invariant.0.some

pub returns-then-is_spent-clause-ok : goal.returns-then-is_spent-clause-ok
returns-then-is_spent-clause-ok g c =
    let within = c.next-number.ensures.within in
    let near : c.next-number.result < c.args.met.now.end = omega (arith, within.1, c.if-number-met.false) in
    let low : c.parts.last ≤ c.next-number.result = omega (arith, within.0, c.parts.invariant.5) in
    let number = at_number (ranges_at (g.S.Search.stage c.args.search.now).ranges c.args.wanted.parts.places.now) c.go_on.new.self.ranges c.parts.row.ranges c.go_on.new.self.digits c.parts.row.digits c.next-number.result c.parts.last
    c.go_on.ensures.ranges c.parts.invariant.3 c.go_on.ensures.number c.go_on.ensures.counted c.parts.invariant.4 low in
    let free = c.next-number.ensures.free in
    let there = c.next-number.ensures.marked near in
    known_if_ok _ _ (λ status is appends. as_status _ _ _ _ _ _ _ _ _ status _ is
    (ends_at_limit (part_wording c.args.style.now.format c.args.style.now.elements.now (schema_of c.args.wanted.parts.schema.now).comps (schema_of c.args.wanted.parts.flat.now).comps) _ _ _ _ _ _ _ c.requires.marked _ _ _ _ c.parts.invariant.0 c.next-number.result within.0 near free there (picked c.go_on.new.self.ranges c.go_on.new.self.digits) number _ _ c.one_less-left.ensures c.in_ok-write_row.ensures.ok c.if-is_spent.ensures _ appends)) c.write_last.ensures.ok c.write_last.ensures.status

pub returns-then-is_spent-clause-err : goal.returns-then-is_spent-clause-err
returns-then-is_spent-clause-err g c =
    let within = c.next-number.ensures.within in
    let near : c.next-number.result < c.args.met.now.end = omega (arith, within.1, c.if-number-met.false) in
    let low : c.parts.last ≤ c.next-number.result = omega (arith, within.0, c.parts.invariant.5) in
    let number = at_number (ranges_at (g.S.Search.stage c.args.search.now).ranges c.args.wanted.parts.places.now) c.go_on.new.self.ranges c.parts.row.ranges c.go_on.new.self.digits c.parts.row.digits c.next-number.result c.parts.last
    c.go_on.ensures.ranges c.parts.invariant.3 c.go_on.ensures.number c.go_on.ensures.counted c.parts.invariant.4 low in
    let free = c.next-number.ensures.free in
    let there = c.next-number.ensures.marked near in
    weaker_on_err _ (stops_in_more (part_wording c.args.style.now.format c.args.style.now.elements.now (schema_of c.args.wanted.parts.schema.now).comps (schema_of c.args.wanted.parts.flat.now).comps) _ _ _ _ _ _ _ c.requires.marked _ _ _ _ c.parts.invariant.0 c.next-number.result within.0 near free there (picked c.go_on.new.self.ranges c.go_on.new.self.digits) number _ _ c.one_less-left.ensures c.in_ok-write_row.ensures.ok c.if-is_spent.ensures _) c.write_last.ensures.err

pub parts-preserved : goal.parts-preserved
parts-preserved g c =
    let within = c.next-number.ensures.within in
    let near : c.next-number.result < c.args.met.now.end = omega (arith, within.1, c.if-number-met.false) in
    let low : c.parts.last ≤ c.next-number.result = omega (arith, within.0, c.parts.invariant.5) in
    let number = at_number (ranges_at (g.S.Search.stage c.args.search.now).ranges c.args.wanted.parts.places.now) c.go_on.new.self.ranges c.parts.row.ranges c.go_on.new.self.digits c.parts.row.digits c.next-number.result c.parts.last
    c.go_on.ensures.ranges c.parts.invariant.3 c.go_on.ensures.number c.go_on.ensures.counted c.parts.invariant.4 low in
    let free = c.next-number.ensures.free in
    let there = c.next-number.ensures.marked near in
    let over = c.go_on.ensures.ranges ∙ c.parts.invariant.3 in
    let at : counted c.go_on.new.self.ranges c.go_on.new.self.digits ≡ c.next-number.result = omega (arith, c.go_on.ensures.counted, c.parts.invariant.4, low) in (
      goes_on (part_wording c.args.style.now.format c.args.style.now.elements.now (schema_of c.args.wanted.parts.schema.now).comps (schema_of c.args.wanted.parts.flat.now).comps) _ _ _ _ _ _ _ c.requires.marked _ _ _ _ c.parts.invariant.0 c.next-number.result within.0 near free there (picked c.go_on.new.self.ranges c.go_on.new.self.digits) number _ _ c.one_less-left.ensures c.in_ok-write_row.ensures.ok c.if-is_spent.ensures,
      subst (λ rs. IsPrinted c.args.style.now.format c.args.style.now.elements.now (schema_of c.args.wanted.parts.schema.now).comps rs c.write_row.new.printed)
          over c.in_ok-write_row.ensures.printed,
      c.in_ok-write_row.ensures.count,
      over,
      at,
      omega arith,
    )
