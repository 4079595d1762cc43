use Rattle.law_answered.proofs.NamedLines.{one_row_of_a_line, one_row_of_an_object, refused_lines_are_of_no_row}
use Rattle.law_answered.proofs.lines_name_rows.Goals as goal

pub returns : goal.returns
returns c = record { one = one_row_of_a_line; object = one_row_of_an_object; none = refused_lines_are_of_no_row }
