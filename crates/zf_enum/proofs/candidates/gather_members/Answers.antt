use Rattle.zf_enum.proofs.Trying.{stays_on}
use Rattle.zf_enum.proofs.Placed.{placed_more, placed_all}
use Rattle.zf_enum.proofs.candidates.gather_members.Goals as goal

pub loop-value-init : goal.loop-value-init
loop-value-init c = (λ i m. m, λ v m. absurd m)

pub loop-value-preserved : goal.loop-value-preserved
loop-value-preserved c =
    let old = c.loop-value.gathered.items in
    let new = c.gather_place.new.gathered.items in
    let stay = c.gather_place.ensures.stay in
    let here = c.in_ok-gather_place.ensures.kept in (
      stays_on c.args.gathered.now.items old new c.loop-value.invariant.0 stay,
      placed_more c.args.values.now c.loop-value.value-index c.value-item.result c.args.range.now old new c.value-item.is c.loop-value-test.true stay here
          c.loop-value.invariant.1,
    )

pub returns : goal.returns
returns c = record {
  stay = c.loop-value.invariant.0;
  kept = placed_all c.args.values.now c.loop-value.value-index c.args.range.now c.loop-value.gathered.items
      c.loop-value-test.false c.loop-value.invariant.1;
}
