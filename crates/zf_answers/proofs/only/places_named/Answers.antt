use Rattle.zf_answers.proofs.Prelude.{length, map, rules, subst, sym, comp_of, IfAnswered, Some, TellsNoParts, is_comma, IsMisnamed}
use Rattle.std.proofs.lemmas.Iterator.Consumers.{YieldsList-at, YieldsList-end, YieldsList-turn}
use Rattle.std.proofs.lemmas.Iterator.Splits.{YieldsList-from_slice_split}
use Rattle.std.proofs.lemmas.List.{length_push}
use Rattle.zf_answers.proofs.NamedParts.{all_read, none_named, none_yet, one_more, SoFar}
use Rattle.zf_answers.proofs.Refusing.{weaker, weaker_err}
use Rattle.zf_answers.proofs.only.places_named.Goals as goal

pub loop-name-init : goal.loop-name-init
loop-name-init c =
    let comps = map comp_of c.args.components.now in
    subst (SoFar comps c.args.text.now 0) (sym c.new-places.ensures.items) (none_yet comps c.args.text.now)

pub returns-in_err-add_place-clause-stop : goal.returns-in_err-add_place-clause-stop
returns-in_err-add_place-clause-stop c =
    let comps = map comp_of c.args.components.now in
    let text = c.args.text.now in
    let l = c.loop-name in
    let name = c.in-Some.name in
    let turn = YieldsList-turn (YieldsList-at c.into_iter-name-iterator.ensures.into_iter_gives
    (YieldsList-from_slice_split _ is_comma text c.split-name-items.ensures.rest c.split-name-items.ensures.done c.split-name-items.ensures.closure (λ b is f called. search rules)))
    l.yielded _ l.yielded_by _ _ name c.in-Some.is c.next.ensures.steps in
    weaker_err _ (λ s. IfAnswered s (IsMisnamed comps name.now l.places.items)) (λ s. IfAnswered s (TellsNoParts comps (Some text)))
    (λ stop told. weaker stop (λ told status m. (none_named comps text (length l.yielded) name.now l.places.items l.invariant turn.0 turn.1 m.0, m.1)) told) (search rules)

pub loop-name-preserved : goal.loop-name-preserved
loop-name-preserved c =
    let comps = map comp_of c.args.components.now in
    let text = c.args.text.now in
    let l = c.loop-name in
    let name = c.in-Some.name in
    let turn = YieldsList-turn (YieldsList-at c.into_iter-name-iterator.ensures.into_iter_gives
    (YieldsList-from_slice_split _ is_comma text c.split-name-items.ensures.rest c.split-name-items.ensures.done c.split-name-items.ensures.closure (λ b is f called. search rules)))
    l.yielded _ l.yielded_by _ _ name c.in-Some.is c.next.ensures.steps in
    subst (λ n. SoFar comps text n c.add_place.new.places.items) (sym (length_push l.yielded name))
    (one_more comps text (length l.yielded) name.now l.places.items l.invariant turn.0 turn.1 _ c.in_ok-add_place.ensures.added)

pub returns-clause-named : goal.returns-clause-named
returns-clause-named c =
    let text = c.args.text.now in
    let l = c.loop-name in
    let end = YieldsList-end (YieldsList-at c.into_iter-name-iterator.ensures.into_iter_gives
    (YieldsList-from_slice_split _ is_comma text c.split-name-items.ensures.rest c.split-name-items.ensures.done c.split-name-items.ensures.closure (λ b is f called. search rules)))
    l.yielded _ l.yielded_by _ _ c.in-None.is c.next.ensures.steps in
    all_read (map comp_of c.args.components.now) text (length l.yielded) l.places.items end.1 l.invariant
