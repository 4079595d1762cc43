use Rattle.zf_checker.proofs.Prelude.{map, on_ok_weaker, decl_of, tree_of, a_box, Checked}
use Rattle.zf_checker.proofs.Running.{noted}
use Rattle.zf_checker.proofs.checker.check_schema_box.Goals as goal

pub returns-clause-runs : goal.returns-clause-runs
returns-clause-runs c =
    let after : Checked = record { globals = c.define_box-defined.new.globals; faults = c.note.new.faults } in
    let item = a_box c.args.name.now (map decl_of c.args.decls.now) (map tree_of c.args.predicates.now) in
    on_ok_weaker c.note.result
    (noted c.args.checked.now after item c.define_box-defined.result c.define_box-defined.ensures.ok c.define_box-defined.ensures.fault c.define_box-defined.ensures.kept)
    c.note.ensures
