use Rattle.zf_read.proofs.Chosen.{held_is_line, line_is_held}
use Rattle.zf_read.proofs.OneHeld.{one_held_line}
use Rattle.zf_read.proofs.laws.held_lines.Goals as goal

pub returns : goal.returns
returns c = record { one = one_held_line; line = held_is_line; held = line_is_held }
