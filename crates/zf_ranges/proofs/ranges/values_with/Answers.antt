-- The values of a range, or of them the one that is held.
use Rattle.zf_ranges.proofs.Prelude.{map, set_of, sets_of, environment_of}
use Rattle.zf_ranges.proofs.Held.{one_ok, ascending_alone}
use Rattle.zf_ranges.proofs.ranges.values_with.Goals as goal

pub narrowed-requires : goal.narrowed-requires
narrowed-requires c = ascending_alone c.in-Some.value.now c.in_ok-alone-in-Some.field-0.items c.in_ok-alone-in-Some.ensures

pub returns-in_ok-alone-in-Some-clause-is : goal.returns-in_ok-alone-in-Some-clause-is
returns-in_ok-alone-in-Some-clause-is c =
    rw c.in-Some.is (one_ok (environment_of c.args.env.now) (sets_of (map set_of c.args.domains.now)) (λ v. v.items) c.narrowed.result c.in-Some.value.now c.in_ok-alone-in-Some.field-0.items
    c.in_ok-alone-in-Some.ensures c.narrowed.ensures.is)
