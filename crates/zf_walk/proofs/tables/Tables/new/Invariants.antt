use Rattle.zf_walk.specs.{AreTables}
use Rattle.zf_walk.proofs.tables.Tables.new.Given as goal

-- The tables of the conjuncts so far.
abbrev pub invariant-loop-conjunct : goal.invariant-loop-conjunct
invariant-loop-conjunct g l = AreTables (g.J.Judge.conjuncts l.judge) (g.J.Judge.is_used l.judge) l.ranges l.conjunct l.each.items
