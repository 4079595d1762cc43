use Rattle.zf_answers.proofs.Prelude.{◌∙◌, ap, inl, inr, map, sym, comp_of, trim_ascii_end_is, trim_ascii_start_is, without_end}
use Rattle.zf_answers.proofs.NamedParts.{component_at, is_among, is_not_among, no_component}
use Rattle.zf_answers.proofs.Refusing.{weaker}
use Rattle.zf_answers.proofs.only.add_place.Goals as goal

pub returns-in_default-clause-stop : goal.returns-in_default-clause-stop
returns-in_default-clause-stop c =
    let same = trim_ascii_end_is _ _ c.trim_ascii_end-trimmed.ensures.value ∙ ap without_end (trim_ascii_start_is _ _ c.trim_ascii_start.ensures.value) in
    weaker c.not_components.result (λ told status t. (
      inl (no_component (map comp_of c.args.components.now) c.args.name.now _ same c.in_default.ensures),
      t,
    )) c.not_components.ensures

pub returns-then-contains-clause-stop : goal.returns-then-contains-clause-stop
returns-then-contains-clause-stop c =
    let same = trim_ascii_end_is _ _ c.trim_ascii_end-trimmed.ensures.value ∙ ap without_end (trim_ascii_start_is _ _ c.trim_ascii_start.ensures.value) in
    let place = c.in-Some.place in
    let among = is_among c.args.places.now.items place (sym (rw c.deref.ensures.value at c.contains.ensures.value) ∙ c.if-contains.true) in
    weaker c.not_components-then-contains.result (λ told status t. (
      inr (
        place,
        component_at (map comp_of c.args.components.now) c.args.name.now _ same place _ c.in-Some.ensures,
        among,
      ),
      t,
    )) c.not_components-then-contains.ensures

pub returns-clause-added : goal.returns-clause-added
returns-clause-added c =
    let same = trim_ascii_end_is _ _ c.trim_ascii_end-trimmed.ensures.value ∙ ap without_end (trim_ascii_start_is _ _ c.trim_ascii_start.ensures.value) in
    let place = c.in-Some.place in
    record {
      place = place;
      named = component_at (map comp_of c.args.components.now) c.args.name.now _ same place _ c.in-Some.ensures;
      other = is_not_among c.args.places.now.items place (sym (rw c.deref.ensures.value at c.contains.ensures.value) ∙ c.if-contains.false);
      added = c.in_ok-push.ensures.items;
    }
