use Rattle.zf_walk.proofs.Prelude.{◌+◌, arith, List, Option, subst, sym, ℕ, AreTables, Table}
use Rattle.zf_walk.proofs.Telling.{tables-none, tables-more}
use Rattle.zf_walk.proofs.tables.Tables.new.Goals as goal

pub loop-conjunct-init : goal.loop-conjunct-init
loop-conjunct-init g c =
    tables-none (g.J.Judge.conjuncts c.args.judge.now) (g.J.Judge.is_used c.args.judge.now) c.args.ranges.now
    c.in_ok-each.each.items c.in_ok-each.ensures.items

pub loop-conjunct-preserved : goal.loop-conjunct-preserved
loop-conjunct-preserved g c =
    subst (λ (ts : List (Option Table)). AreTables (g.J.Judge.conjuncts c.args.judge.now) (g.J.Judge.is_used c.args.judge.now) c.args.ranges.now (c.loop-conjunct.conjunct + 1) ts)
    (sym c.in_ok-push.ensures.items) (tables-more c.loop-conjunct.invariant c.in_ok-table.table c.in_ok-table.ensures)

pub returns : goal.returns
returns g c =
    subst (λ (n : ℕ). AreTables (g.J.Judge.conjuncts c.args.judge.now) (g.J.Judge.is_used c.args.judge.now) c.args.ranges.now n c.loop-conjunct.each.items)
    (omega (arith, c.count-count.ensures)) c.loop-conjunct.invariant
