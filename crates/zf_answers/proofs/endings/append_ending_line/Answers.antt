use Rattle.zf_answers.proofs.Prelude.{codes}
use Rattle.zf_answers.proofs.ToldLines.{if_appended, three_told}
use Rattle.zf_answers.proofs.endings.append_ending_line.Goals as goal

pub returns : goal.returns
returns c =
    three_told c.extend_from_slice-3.result c.args.text.now.items (codes "no binding: ") c.args.kind.now (codes "\n") _ _ _
    c.in_ok-extend_from_slice.ensures.items c.in_ok-extend_from_slice-2.ensures.items
    (if_appended c.extend_from_slice-3.result _ _ _ c.extend_from_slice-3.ensures.items)
