use Rattle.zf_outcome.proofs.Prelude.{◌↔◌, rules, w64, IsTrue, FitsSigned, IsInterval, Out}
use Rattle.zf_outcome.proofs.Comparisons.{written-both}
use Rattle.zf_outcome.proofs.Tests.{plain-within, power-within, arrows-within, interval-within, product-within}
use Rattle.zf_outcome.proofs.described.Described.is_out.Goals as goal

pub returns-in-Plain-clause-within : goal.returns-in-Plain-clause-within
returns-in-Plain-clause-within c = plain-within c.args.self.now c.in-Plain.found c.is_found_out.result c.in-Plain.is c.is_found_out.ensures

pub returns-in-Power-clause-within : goal.returns-in-Power-clause-within
returns-in-Power-clause-within c = power-within c.args.self.now c.in-Power.set c.is_power_out.result c.in-Power.is c.is_power_out.ensures.out c.is_power_out.ensures.there

pub returns-in-Arrows-clause-within : goal.returns-in-Arrows-clause-within
returns-in-Arrows-clause-within c =
    let i = c.in-Arrows in
    arrows-within c.args.self.now i.kind i.from i.to c.are_arrows_out.result i.is c.are_arrows_out.ensures.out c.are_arrows_out.ensures.there

pub returns-in-Interval-clause-within : goal.returns-in-Interval-clause-within
returns-in-Interval-clause-within c =
    let f : FitsSigned w64 c.in-Interval.from = search rules in
    let g : FitsSigned w64 c.in-Interval.to = search rules in
    interval-within c.args.self.now c.in-Interval.from c.in-Interval.to c.is_interval_out.result c.in-Interval.is
    (written-both (λ x y. IsTrue c.is_interval_out.result ↔ IsInterval x y Out) c.in-Interval.from c.in-Interval.to f g c.is_interval_out.ensures)

pub returns-in-Product-clause-within : goal.returns-in-Product-clause-within
returns-in-Product-clause-within c =
    let i = c.in-Product in
    product-within c.args.self.now i.sets c.as_slice.result.now c.is_cross_out.result i.is c.as_slice.ensures.value c.is_cross_out.ensures.out c.is_cross_out.ensures.there
