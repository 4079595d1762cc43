use Rattle.zf_meaning.proofs.Prelude.{arith, refl, iff_false}
use Rattle.zf_meaning.proofs.PassedRows.{none-other, other-more}
use Rattle.zf_meaning.proofs.rows.before_wanted.Goals as goal

pub loop-place-init : goal.loop-place-init
loop-place-init c = record { next = refl; from = omega arith; inside = c.requires; others = none-other c.args.list.now c.args.from c.args.wanted.now }

pub loop-place-preserved : goal.loop-place-preserved
loop-place-preserved c =
    let i = c.loop-place.invariant in
    record {
      next = refl;
      from = omega (arith, i.from, i.next);
      inside = c.loop-place-test.true;
      others = other-more c.args.list.now c.args.from c.loop-place.before c.loop-place.place c.index-list-place.result c.args.wanted.now i.next
          c.loop-place-test.true c.index-list-place.is (iff_false c.equals.ensures c.if-equals.false) i.others;
    }
