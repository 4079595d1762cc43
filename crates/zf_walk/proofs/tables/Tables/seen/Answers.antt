use Rattle.zf_walk.proofs.Prelude.{◌++◌, ◌+◌, ◌∷◌, ◌≡◌, [], arith, length, length-append}
use Rattle.zf_walk.proofs.Telling.{table-at, table-fits}
use Rattle.zf_walk.proofs.tables.Tables.seen.Goals as goal

pub seen-requires : goal.seen-requires
seen-requires g c =
    let places = c.args.places.now ++ 0 ∷ [] in
    let due : (g.J.Judge.conjuncts c.args.judge.now).due c.args.conjunct ≡ length places = omega (arith, c.requires.due, length-append c.args.places.now (0 ∷ [])) in
    table-fits (table-at c.requires.known c.args.conjunct c.index.result.now c.in-Some.table c.requires.conjunct c.index.ensures c.in-Some.is) c.requires.some due

pub returns-in-Some : goal.returns-in-Some
returns-in-Some g c = λ i t within seen.
    let places = c.args.places.now ++ i ∷ [] in
    let due : (g.J.Judge.conjuncts c.args.judge.now).due c.args.conjunct ≡ length places = omega (arith, c.requires.due, length-append c.args.places.now (i ∷ [])) in
    let table = table-at c.requires.known c.args.conjunct c.index.result.now c.in-Some.table c.requires.conjunct c.index.ensures c.in-Some.is in
    table.marks places t within due (c.seen.ensures i t (table-fits table within due) seen)
