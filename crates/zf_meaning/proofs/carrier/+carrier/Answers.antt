use Rattle.zf_meaning.proofs.Prelude.{subst, sym, type_of, IsCarrier, environment_of, found_outcome}
use Rattle.zf_meaning.proofs.CarrierLists.{carriers-begun, carriers-more, carriers-all}
use Rattle.zf_meaning.proofs.Gathering.{drop-past}
use Rattle.zf_meaning.proofs.carrier.+carrier.Goals as goal

pub carriers_of-loop-part-init : goal.carriers_of-loop-part-init
carriers_of-loop-part-init t c = carriers-begun (environment_of c.args.env.now) c.args.parts.now c.in_ok-gathered.gathered.lack
    c.in_ok-gathered.gathered.values.items c.in_ok-gathered.ensures.lack c.in_ok-gathered.ensures.values

pub carriers_of-loop-part-preserved : goal.carriers_of-loop-part-preserved
carriers_of-loop-part-preserved t c =
    let is = subst (IsCarrier (environment_of c.args.env.now) (type_of c.part-item.result)) (sym c.own.ensures) c.in_ok-carrier.ensures in
    carriers-more (environment_of c.args.env.now) c.args.parts.now c.loop-part.part-index c.part-item.result c.loop-part.gathered.lack c.add.new.self.lack
    c.loop-part.gathered.values.items c.add.new.self.values.items (found_outcome c.own.result) c.loop-part-test.true c.part-item.is c.loop-part.invariant
    is c.in_ok-add.ensures.0 c.in_ok-add.ensures.1

pub carriers_of-returns : goal.carriers_of-returns
carriers_of-returns t c =
    carriers-all (environment_of c.args.env.now) c.args.parts.now _ c.loop-part.gathered.lack c.loop-part.gathered.values.items
    (drop-past c.loop-part.part-index c.args.parts.now c.loop-part-test.false) c.loop-part.invariant
