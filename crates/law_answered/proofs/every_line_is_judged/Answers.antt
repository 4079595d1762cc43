use Rattle.law_answered.proofs.HeldLines.{every_held_line_is_judged, every_line_is_judged}
use Rattle.law_answered.proofs.every_line_is_judged.Goals as goal

pub returns : goal.returns
returns c = record { whole = every_line_is_judged; held = every_held_line_is_judged }
