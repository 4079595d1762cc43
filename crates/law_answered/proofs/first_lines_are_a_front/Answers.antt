use Rattle.law_answered.proofs.EarlyStops.{first_lines_are_a_front, parts_are_fronts}
use Rattle.law_answered.proofs.first_lines_are_a_front.Goals as goal

pub returns : goal.returns
returns c = record { lines = first_lines_are_a_front; parts = parts_are_fronts c.every_request_is_answered.ensures }
