use Rattle.zf_parts.proofs.Prelude.{◌<◌, ◌≡◌, ◌∙◌, [], ap, get_or, length, subst, sym, slice_get, ranges_at, length-picked, slice_get-picked, picked}
use Rattle.zf_parts.proofs.part_row.PartRowLocated.place.Goals as goal

pub digit_at-requires : goal.digit_at-requires
digit_at-requires c =
    let w = c.self.inside in
    let near = subst (λ n. c.args.i < n) (sym (ap (λ r. length (picked r.ranges r.digits)) c.self.view_is)
    ∙ length-picked (ranges_at w.ranges.now w.places.now) w.digits.items c.self.invariant.1) c.requires in
    subst (λ ds. c.args.i < length ds) (sym c.deref.ensures.value) near

pub returns : goal.returns
returns c =
    let w = c.self.inside in
    let near = subst (λ n. c.args.i < n) (sym (ap (λ r. length (picked r.ranges r.digits)) c.self.view_is)
    ∙ length-picked (ranges_at w.ranges.now w.places.now) w.digits.items c.self.invariant.1) c.requires in
    subst (λ r. slice_get (picked r.ranges r.digits) c.args.i ≡ slice_get (get_or r.ranges c.args.i []) c.digit_at.result) c.self.view_is
    (slice_get-picked (ranges_at w.ranges.now w.places.now) w.digits.items c.args.i c.self.invariant.1 near
    ∙ ap (slice_get (get_or (ranges_at w.ranges.now w.places.now) c.args.i [])) (sym (c.digit_at.ensures ∙ ap (λ ds. get_or ds c.args.i 0) c.deref.ensures.value)))
