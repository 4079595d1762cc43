use Rattle.zf_calculus.proofs.Prelude.{◌≡◌, ◌≤◌, arith, length, map, rules, comp_of, Offence, too_large, with_comp}
use Rattle.zf_term.specs.declared.fault.Limit.TheVariants as limit
use Rattle.zf_calculus.proofs.Merging.{named_below, joined_known, joined_new, length_known, length_new}
use Rattle.zf_calculus.proofs.Placing.{placed_known, placed_new}
use Rattle.zf_calculus.proofs.Stopping.{weaker}
use Rattle.zf_calculus.proofs.components.join.Goals as goal

pub gain-requires : goal.gain-requires
gain-requires c = named_below _ _ c.args.components.now c.in-Some.place c.as_slice.ensures c.in-Some.ensures

pub returns-in_ok-gain-in-Some : goal.returns-in_ok-gain-in-Some
returns-in_ok-gain-in-Some c =
    let l = length_known c.args.component _ _ c.args.components.now c.in-Some.place c.as_slice-2.ensures c.as_slice.ensures c.in-Some.ensures in
    record {
      ok = joined_known c.args.component _ _ c.args.components.now c.gain.new.components c.in-Some.place c.as_slice-2.ensures c.as_slice.ensures
          c.in-Some.ensures c.in_ok-gain-in-Some.ensures;
      place = placed_known c.args.component _ _ c.args.components.now c.in-Some.place c.as_slice-2.ensures c.as_slice.ensures c.in-Some.ensures;
      room = omega (arith, c.requires);
      err = tt;
    }

pub returns-in_ok-add_new-in-None : goal.returns-in_ok-add_new-in-None
returns-in_ok-add_new-in-None c =
    let l = length_new c.args.component _ _ c.args.components.now c.as_slice-2.ensures c.as_slice.ensures c.in-None.ensures in
    record {
      ok = joined_new c.args.component _ _ c.args.components.now c.add_new.new.components c.as_slice-2.ensures c.as_slice.ensures c.in-None.ensures
          c.in_ok-add_new-in-None.ensures.ok;
      place = placed_new c.args.component _ _ c.args.components.now c.len-place.result c.as_slice-2.ensures c.as_slice.ensures c.in-None.ensures c.len-place.ensures;
      room = omega (arith, c.in_ok-add_new-in-None.ensures.room);
      err = tt;
    }

pub returns-in_err-add_new-in-None-clause-err : goal.returns-in_err-add_new-in-None-clause-err
returns-in_err-add_new-in-None-clause-err c =
    let l = length_new c.args.component _ _ c.args.components.now c.as_slice-2.ensures c.as_slice.ensures c.in-None.ensures in
    let step : (k : Offence) → (k ≡ too_large limit.Components) × (64 ≤ length c.args.components.now) → (k ≡ too_large limit.Components)
    × (length (with_comp (map comp_of c.args.components.now) (comp_of c.args.component)) ≤ 64 → ⊥) =
    λ k h. (h.0, λ w. omega (arith, h.1)) in
    let fact = weaker _ _ _ step c.in_err-add_new-in-None.ensures.err in
    search rules
