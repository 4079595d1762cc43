use Rattle.zf_enum.proofs.Prelude.{◌≡◌, ◌≤◌, ap, arith, get_or, length, List, subst, sym, Value}
use Rattle.zf_enum.proofs.Trying.{stays_on}
use Rattle.zf_enum.proofs.Balanced.{ruled_next, ruled_all}
use Rattle.zf_enum.proofs.sums.gather_possible.Goals as goal

pub loop-place-init : goal.loop-place-init
loop-place-init c = (λ i m. m, λ i v l. absurd (omega (arith, l)))

pub loop-place-preserved : goal.loop-place-preserved
loop-place-preserved c =
    let old = c.loop-place.gathered.items in
    let new = c.gather_if_possible.new.gathered.items in
    let place = c.loop-place.place in
    let x = c.index.result.now in
    let stay = c.gather_if_possible.ensures.stay in
    let same : c.args.range.now ≡ c.range.inside.values.items = (cc) in
    let at = subst (λ (xs : List Value). x ≡ get_or xs place x) (sym same) c.index.ensures in (
      stays_on c.args.gathered.now.items old new c.loop-place.invariant.0 stay,
      ruled_next c.args.relation c.args.interval c.args.range.now place x old new at stay c.loop-place.invariant.1 c.in_ok-gather_if_possible.ensures.kept,
    )

pub returns : goal.returns
returns c =
    let same : c.args.range.now ≡ c.range.inside.values.items = (cc) in
    let last : length c.args.range.now ≤ c.loop-place.place = omega (arith, c.loop-place-test.false, c.len-place-end.ensures, c.range.inside.values.ok.0, ap length same) in
    record { stay = c.loop-place.invariant.0; ruled_out = λ u. ruled_all c.args.relation c.args.interval c.args.range.now c.loop-place.place c.loop-place.gathered.items last c.loop-place.invariant.1 }
