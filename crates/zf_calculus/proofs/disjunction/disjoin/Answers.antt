use Rattle.zf_calculus.proofs.Prelude.{IfOk-weaker, refl, schema_of, sides_span, Agree, disjoined, IsTooLarge, IsNext, OneClashes, Stops}
use Rattle.zf_calculus.proofs.Changing.{agreed}
use Rattle.zf_calculus.proofs.Disjoining.{disjunction_made, stops_disjoining, next_disjoined}
use Rattle.zf_calculus.proofs.Stopping.{stopped}
use Rattle.zf_calculus.proofs.disjunction.disjoin.Goals as goal

pub returns : goal.returns
returns c =
    let a = schema_of c.args.left.now in
    let b = schema_of c.args.right.now in
    let place = sides_span c.args.sides in
    let whole = disjoined place a b in
    let flat = c.in_ok-disjunction.field-0 in
    let all_agree = Agree a.comps b.comps in
    let clashes = OneClashes a.comps b.comps in
    let made = disjunction_made place c.args.left.now c.args.right.now flat c.in_ok-components.components c.in_ok-components.components
    c.as_slice-3.result.now c.as_slice-4.result.now c.in_ok-disjunction.ensures refl c.in_ok-components.ensures.ok c.as_slice-3.ensures
    c.as_slice-4.ensures in
    let agree : all_agree = agreed c.args.left.now c.args.right.now b c.as_slice.result.now c.as_slice-2.result.now c.as_slice.ensures
    c.as_slice-2.ensures refl c.in_ok-agree.ensures.ok in
    record {
      agree = IfOk-weaker c.within.result (λ g. IsNext (schema_of flat) (schema_of g)) (λ g. all_agree) (λ g h. agree) c.within.ensures.ok;
      ok = IfOk-weaker c.within.result (λ g. IsNext (schema_of flat) (schema_of g)) (λ g. IsNext whole (schema_of g))
          (λ g. next_disjoined (schema_of flat) whole (schema_of g) made) c.within.ensures.ok;
      err = stopped c.within.result (IsTooLarge (schema_of flat)) (Stops clashes all_agree whole)
          (stops_disjoining clashes all_agree (schema_of flat) whole made agree) c.within.ensures.err;
    }
