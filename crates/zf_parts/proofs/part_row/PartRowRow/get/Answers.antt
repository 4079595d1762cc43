use Rattle.zf_parts.proofs.Prelude.{◌<◌, ◌≡◌, ◌∙◌, ap, arith, length, Some, subst, sym, slice_get, ranges_at, length-picked, picked}
use Rattle.zf_parts.proofs.Numbering.{length_ranges}
use Rattle.zf_parts.proofs.part_row.PartRowRow.get.Goals as goal

pub value_at-requires-clause-index : goal.value_at-requires-clause-index
value_at-requires-clause-index c =
    let w = c.self.inside in
    let near = subst (λ n. c.args.i < n) (sym (ap (λ r. length (picked r.ranges r.digits)) c.self.view_is)
    ∙ length-picked (ranges_at w.ranges.now w.places.now) w.digits.items c.self.invariant.1) c.requires in
    subst (λ ds. c.args.i < length ds) (sym c.deref.ensures.value) near

pub value_at-requires-clause-place : goal.value_at-requires-clause-place
value_at-requires-clause-place c =
    let w = c.self.inside in
    let near = subst (λ n. c.args.i < n) (sym (ap (λ r. length (picked r.ranges r.digits)) c.self.view_is)
    ∙ length-picked (ranges_at w.ranges.now w.places.now) w.digits.items c.self.invariant.1) c.requires in
    let few = c.self.invariant.1.few in
    omega (arith, near, few, length_ranges w.ranges.now w.places.now)

pub returns : goal.returns
returns c =
    let w = c.self.inside in
    let there = subst (λ ds. slice_get (picked (ranges_at w.ranges.now w.places.now) ds) c.args.i ≡ Some c.value_at.result.now) c.deref.ensures.value c.value_at.ensures in
    subst (λ r. slice_get (picked r.ranges r.digits) c.args.i ≡ Some c.value_at.result.now) c.self.view_is there
