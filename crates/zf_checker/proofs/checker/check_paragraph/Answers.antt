use Rattle.zf_checker.proofs.Prelude.{on_ok_weaker, paragraph_of, a_paragraph, Checked}
use Rattle.zf_checker.proofs.Running.{noted}
use Rattle.zf_checker.proofs.checker.check_paragraph.Goals as goal

pub returns-clause-runs : goal.returns-clause-runs
returns-clause-runs c =
    let after : Checked = record { globals = c.define-defined.new.globals; faults = c.note.new.faults } in
    let item = a_paragraph (paragraph_of c.args.paragraph.now) in
    on_ok_weaker c.note.result
    (noted c.args.checked.now after item c.define-defined.result c.define-defined.ensures.ok c.define-defined.ensures.fault c.define-defined.ensures.kept)
    c.note.ensures
