use Rattle.zf_checker.proofs.Prelude.{◌++◌, ◌∙◌, ◌≡◌, ap, rules, definition_of, definition_text}
use Rattle.zf_checker.proofs.Lines.{entry_text, all_ahead, one_ahead, none_ahead}
use Rattle.zf_checker.proofs.listing.listing.Goals as goal

pub loop-name-init : goal.loop-name-init
loop-name-init c = all_ahead _ _ c.args.globals.now c.new-bytes.ensures.items (c.into_iter-name-iterator.ensures.into_iter_gives ∙ c.iter-name-items.ensures.rest)

pub loop-name-preserved : goal.loop-name-preserved
loop-name-preserved c =
    let named : c.append_entry.new.text.items ≡ c.loop-name.bytes.items ++ entry_text (c.in-Some.name.now, c.in-Some.entry.now) =
    c.in_ok-append_entry.ensures ∙ ap (λ name. c.loop-name.bytes.items ++ definition_text name (definition_of c.in-Some.entry.now)) c.as_slice.ensures.value in
    one_ahead _ _ _ (c.in-Some.name.now, c.in-Some.entry.now) _ _ c.in-Some.ensures.steps named c.loop-name.invariant

pub returns : goal.returns
returns c =
    let whole = none_ahead _ _ _ c.in-None.ensures.steps.0 c.loop-name.invariant in
    search rules
