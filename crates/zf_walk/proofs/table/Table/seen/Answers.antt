use Rattle.zf_walk.proofs.Prelude.{◌-◌, arith, subst, IsSeen}
use Rattle.zf_walk.proofs.Marking.{seen-marked}
use Rattle.zf_walk.proofs.table.Table.seen.Goals as goal

pub returns-in-Some : goal.returns-in-Some
returns-in-Some c = λ i t fits seen.
    let table = c.args.self.now in
    let count = c.len-count.result in
    seen-marked table c.args.places.now c.in-Some.front count i c.index-last.result.now t (omega (arith, c.len-count.ensures, table.used.ok.0))
    (omega (arith, c.if-count-eq0.false)) c.index-last.ensures (omega (arith, c.if-last-places.false)) c.if-last-self.false
    (c.in-Some.ensures i) fits.used (subst (λ s. IsSeen s i t) c.seen_at.ensures seen)
