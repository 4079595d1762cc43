use Rattle.zf_walk.proofs.Telling.{table-fits, table-at}
use Rattle.zf_walk.proofs.tables.Tables.truth_of.Goals as goal

pub find-requires : goal.find-requires
find-requires g c =
    table-fits (table-at c.requires.known c.args.conjunct c.index.result.now c.in-Some.table c.requires.conjunct c.index.ensures c.in-Some.is) c.requires.within c.requires.due
