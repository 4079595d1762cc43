use Rattle.std.proofs.Common.{◌∙◌, sym}
use Rattle.zf_parts.proofs.Counting.{counted_number}
use Rattle.zf_parts.proofs.Numbering.{length_ranges}
use Rattle.zf_parts.proofs.part_row.PartRow.go_on.Goals as goal

pub returns-clause-number : goal.returns-clause-number
returns-clause-number c =
    counted_number _ _ c.count_on.ensures.within (c.count_on.ensures.long ∙ sym (length_ranges c.self.inside.ranges.now c.self.inside.places.now))
