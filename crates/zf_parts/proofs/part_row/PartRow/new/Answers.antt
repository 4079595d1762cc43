use Rattle.zf_parts.proofs.Prelude.{◌∙◌, ◌≡◌, ap, arith, length, refl, replicate, rules, subst, sym, length-replicate, counted, ranges_at, AreWithin}
use Rattle.zf_parts.proofs.Counting.{first_digits}
use Rattle.zf_parts.proofs.Numbering.{length_ranges}
use Rattle.zf_parts.proofs.part_row.PartRow.new.Goals as goal

pub invariant_of-result : goal.invariant_of-result
invariant_of-result c =
    let all = ranges_at c.args.ranges.now c.args.places.now in
    let first = first_digits all (length c.args.places.now) (omega (arith, length_ranges c.args.ranges.now c.args.places.now)) c.requires.some in
    let zeros : c.in_ok-digits.digits.items ≡ replicate (length c.args.places.now) 0 = search rules in
    (c.requires.below, subst (AreWithin all) (sym zeros) first.0, ap length zeros ∙ length-replicate _ _)

pub returns : goal.returns
returns c =
    let all = ranges_at c.args.ranges.now c.args.places.now in
    let first = first_digits all (length c.args.places.now) (omega (arith, length_ranges c.args.ranges.now c.args.places.now)) c.requires.some in
    let zeros : c.in_ok-digits.digits.items ≡ replicate (length c.args.places.now) 0 = search rules in
    (refl, ap (counted all) zeros ∙ first.1)
