-- One more range is put into its place.
use Rattle.zf_plan.proofs.Prelude.{◌∙◌, ◌++◌, ap, arith, drop, length, take, into_iter_items, exchanged}
use Rattle.zf_plan.proofs.search.with_others.Goals as goal

pub put-requires : goal.put-requires
put-requires g c = omega (arith, c.loop-other.invariant.ahead, ap length c.in-Some.ensures.steps.0)

pub loop-other-preserved : goal.loop-other-preserved
loop-other-preserved g c =
    let old = c.loop-other.ranges.items in
    let place = c.loop-other.place in
    record {
      whole = c.loop-other.invariant.whole ∙ ap (λ os. take place old ++ exchanged (drop place old) os) c.in-Some.ensures.steps.0 ∙ c.put.ensures.0 (into_iter_items c.next.new.self);
      each = c.put.ensures.1 ∙ c.loop-other.invariant.each;
      ahead = omega (arith, c.loop-other.invariant.ahead, ap length c.in-Some.ensures.steps.0, c.put.ensures.1);
    }
