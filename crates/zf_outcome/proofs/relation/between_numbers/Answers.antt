use Rattle.zf_outcome.proofs.Prelude.{Int, Holds, Tells}
use Rattle.zf_outcome.proofs.Comparisons.{told-by, written-both}
use Rattle.zf_outcome.proofs.relation.between_numbers.Goals as goal

pub returns : goal.returns
returns c = written-both (λ x y. Tells (Holds c.args.relation (Int x) (Int y)) c.told.result) c.args.m c.args.n c.ranges.m c.ranges.n
    (told-by _ c.holds-does.result c.told.result c.told.ensures c.holds-does.ensures)
