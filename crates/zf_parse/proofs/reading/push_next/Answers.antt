use Rattle.zf_parse.proofs.Prelude.{◌++◌, ◌∙◌, map, sym, token_at}
use Rattle.zf_parse.proofs.BoxByBox.{unmoved, added, refused_there, none_there, some_there, no_tokens, some_tokens}
use Rattle.zf_parse.proofs.reading.push_next.Goals as goal

pub returns-then-is_empty-clause-ok : goal.returns-then-is_empty-clause-ok
returns-then-is_empty-clause-ok c =
    let source = c.args.source.now in
    let symbols = c.cut_next.new.symbols.items in
    unmoved source c.args.border.now c.cut_next.new.border c.args.boxes.now (map (token_at source) symbols) c.requires c.in_ok-cut_next.ensures.cut
    (no_tokens source symbols (sym c.as_slice.ensures.value ∙ none_there c.as_slice.result.now (sym c.is_empty.ensures ∙ c.if-is_empty.true)))

pub cut_others-requires : goal.cut_others-requires
cut_others-requires c = (c.requires.0 ++ map (token_at c.args.source.now) c.cut_next.new.symbols.items, c.in_ok-cut_next.ensures.cut c.requires.0 c.requires.1)

pub returns-in_ok-push-in-Ok-clause-ok : goal.returns-in_ok-push-in-Ok-clause-ok
returns-in_ok-push-in-Ok-clause-ok c =
    let source = c.args.source.now in
    let symbols = c.cut_next.new.symbols.items in
    added source c.args.border.now c.cut_next.new.border c.args.boxes.now
    (map (token_at source) symbols) c.requires c.in_ok-cut_next.ensures.cut c.in_ok-cut_next.ensures.one
    (some_tokens source symbols (λ none. some_there c.as_slice.result.now (sym c.is_empty.ensures ∙ c.if-is_empty.false) (c.as_slice.ensures.value ∙ none)))
    c.in-Ok.next c.in-Ok.ensures c.push.new.self c.in_ok-push-in-Ok.ensures.ok

pub returns-in_ok-cut_others-in-Err-clause-wrong : goal.returns-in_ok-cut_others-in-Err-clause-wrong
returns-in_ok-cut_others-in-Err-clause-wrong c =
    let source = c.args.source.now in
    let symbols = c.cut_next.new.symbols.items in
    refused_there source c.args.border.now c.cut_next.new.border c.args.boxes.now
    (map (token_at source) symbols) c.requires c.in_ok-cut_next.ensures.cut c.in_ok-cut_next.ensures.one
    (some_tokens source symbols (λ none. some_there c.as_slice.result.now (sym c.is_empty.ensures ∙ c.if-is_empty.false) (c.as_slice.ensures.value ∙ none)))
    c.in-Err.unread.fault.kind c.in-Err.unread.fault.span c.in-Err.ensures c.in_ok-cut_others-in-Err.ensures.cut
