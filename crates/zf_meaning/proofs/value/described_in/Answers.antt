use Rattle.zf_term.specs.{resolved_of}
use Rattle.zf_meaning.proofs.InRow.{described-in-row}
use Rattle.zf_meaning.proofs.value.described_in.Goals as goal

pub returns : goal.returns
returns g c = described-in-row c.args.env.now (g.R.Row.values c.args.row.now) c.no_variables-none.result.now
    (resolved_of c.args.term.now) c.described.result c.no_variables-none.ensures c.described.ensures
