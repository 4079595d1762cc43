use Rattle.zf_meaning.proofs.Prelude.{seen, picked, rows_after}
use Rattle.zf_meaning.proofs.PassedRows.{skips-turned}
use Rattle.zf_meaning.proofs.rows.turn_on.Goals as goal

pub returns-clause-turned : goal.returns-clause-turned
returns-clause-turned c =
    let lists = seen c.args.lists.now in
    let places = c.args.places.now in
    let new = c.turn.new.places in
    skips-turned c.args.passing.now (picked lists places) (picked lists new) (rows_after lists places) _ (rows_after lists new) c.turn.result c.go_on-front.ensures.skips c.turn.ensures.turned
