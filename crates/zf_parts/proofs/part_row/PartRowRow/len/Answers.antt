use Rattle.zf_parts.proofs.Prelude.{◌∙◌, ◌≡◌, ap, arith, length, sym, ranges_at, length-picked, picked}
use Rattle.zf_parts.proofs.part_row.PartRowRow.len.Goals as goal

pub returns : goal.returns
returns c =
    let w = c.self.inside in
    let long : c.len.result ≡ length w.digits.items = omega (arith, c.len.ensures, w.digits.ok.0) in
    long ∙ sym (length-picked (ranges_at w.ranges.now w.places.now) w.digits.items c.self.invariant.1) ∙ ap (λ r. length (picked r.ranges r.digits)) c.self.view_is
