use Rattle.zf_calculus.proofs.Prelude.{◌++◌, ◌∙◌, ◌≡◌, ap, IfOk, IfOk-weaker, length, length-map, subst, sym, Schema, place_in, comp, schema_of, Agree, conjoined, decorated, delta, new_place, prime, IsNext, IsTooLarge, OneClashes, Stops}
use Rattle.zf_calculus.proofs.Changing.{stops_after}
use Rattle.zf_calculus.proofs.Stopping.{stopped}
use Rattle.zf_calculus.proofs.marking.change.Goals as goal

pub alike-after-requires : goal.alike-after-requires
alike-after-requires c = (prime, c.in_ok-after.ensures.ok ∙ ap (decorated prime) (sym c.in_ok-before.ensures.0))

pub returns : goal.returns
returns c =
    let a = schema_of c.args.schema.now in
    let b = schema_of c.in_ok-before.before in
    let d = schema_of c.alike-after.result in
    let r = c.merge.result in
    let before : b ≡ a = c.in_ok-before.ensures.0 in
    let after : d ≡ decorated prime a = ap schema_of c.alike-after.ensures ∙ c.in_ok-after.ensures.ok in
    let many : length d.comps ≡ length a.comps = ap (λ (s : Schema). length s.comps) after ∙ length-map a.comps (λ e. comp (e.name ++ prime) e.type e.sets) in
    let all_agree = Agree a.comps (decorated prime a).comps in
    record {
      agree = IfOk-weaker r (λ p. IsNext (conjoined b d) (schema_of p.0)) (λ p. all_agree) (λ p h. c.in_ok-after.ensures.agree) c.merge.ensures.ok;
      ok = subst (λ (s : Schema). IfOk r (λ p. IsNext s (schema_of p.0))) (ap (λ (s : Schema). conjoined s d) before ∙ ap (conjoined a) after) c.merge.ensures.ok;
      places = subst (λ (s : Schema). IfOk r (λ p. place_in p.1 ≡ new_place s.comps (conjoined a s).comps)) after
          (subst (λ (s : Schema). IfOk r (λ p. place_in p.1 ≡ new_place d.comps (conjoined s d).comps)) before c.merge.ensures.places);
      each = IfOk-weaker r (λ p. length p.1 ≡ length d.comps) (λ p. length p.1 ≡ length a.comps) (λ p h. h ∙ many) c.merge.ensures.each;
      err = stopped r (IsTooLarge (conjoined b d)) (Stops (OneClashes a.comps (decorated prime a).comps) all_agree (delta a))
          (stops_after a b d before after c.in_ok-after.ensures.agree) c.merge.ensures.err;
    }
