use Rattle.zf_outcome.proofs.Prelude.{◌↔◌, IsTrue, rules, subst, IsTupleFrom, IsWithin}
use Rattle.zf_outcome.proofs.Tests.{has-power, has-arrows, has-product}
use Rattle.zf_outcome.proofs.described.Described.has.Goals as goal

pub returns-in-Power : goal.returns-in-Power
returns-in-Power c = has-power c.args.self.now c.in-Power.set c.args.v.now c.is_in_power.result c.in-Power.is c.requires c.is_in_power.ensures

pub returns-in-Arrows : goal.returns-in-Arrows
returns-in-Arrows c =
    let i = c.in-Arrows in
    has-arrows c.args.self.now i.kind i.from i.to c.args.v.now c.is_arrow.result i.is c.requires c.is_arrow.ensures

pub is_between-requires : goal.is_between-requires
is_between-requires c = let w = subst IsWithin c.in-Interval.is c.requires in let n = w.2 in search (rules, n)

pub returns-in-Product : goal.returns-in-Product
returns-in-Product c =
    let b = c.is_in_cross.result in
    has-product c.args.self.now c.in-Product.sets c.args.v.now b c.in-Product.is c.requires
    (subst (λ xs. IsTrue b ↔ IsTupleFrom xs c.args.v.now) c.as_slice.ensures.value c.is_in_cross.ensures)
