use Rattle.std.proofs.Common.{length, ap, subst, arith, Some}
use Rattle.zf_walk.proofs.Picks.{length-picked}
use Rattle.zf_walk.proofs.Telling.{table-fits, kept-so, table-at, tables-set}
use Rattle.zf_walk.proofs.tables.Tables.find_out.Goals as goal

pub judge-requires-clause-due : goal.judge-requires-clause-due
judge-requires-clause-due g c = omega (arith, ap length c.new-row.ensures, length-picked c.args.ranges.now c.args.places.now c.requires.within, c.requires.due)

pub keep-requires : goal.keep-requires
keep-requires g c =
    table-fits (table-at c.requires.known c.args.conjunct c.index_mut.result.now c.in-Some.table c.requires.conjunct c.index_mut.ensures.value c.in-Some.is) c.requires.within c.requires.due

pub returns-in-Some-clause-known : goal.returns-in-Some-clause-known
returns-in-Some-clause-known g c =
    let says = subst (λ row. (g.J.Judge.conjuncts c.args.judge.now).says c.args.conjunct row c.in_ok-truth.truth) c.new-row.ensures c.in_ok-truth.ensures in
    let old = table-at c.requires.known c.args.conjunct c.index_mut.result.now c.in-Some.table c.requires.conjunct c.index_mut.ensures.value c.in-Some.is in
    tables-set c.requires.known c.args.conjunct (Some c.keep.new.self) c.requires.conjunct
    (kept-so old c.requires.within c.requires.due (g.met.J.Judge.follow_used c.args.judge.now) c.requires.conjunct c.in_ok-truth.truth says c.keep.new.self c.keep.ensures)
