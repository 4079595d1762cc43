use Rattle.zf_parse.proofs.Prelude.{◌∙◌, ◌≡◌, ap, map, Ok, rules, subst, token_at, reduced, read_all, height_limit, RefusesTokens, Fails}
use Rattle.zf_parse.proofs.Answers.{parsed, refused}
use Rattle.zf_parse.proofs.reading.parsed.Goals as goal

pub returns-in_err-boxes : goal.returns-in_err-boxes
returns-in_err-boxes c =
    let text = c.args.text.now in
    let tokens = map (token_at text) c.args.symbols.items in
    let cursor_is : c.new-cursor.result ≡ reduced tokens = c.new-cursor.ensures ∙ ap (map (token_at text)) c.as_slice.ensures.value ∙ c.reduce.ensures text in
    let fault = c.in_err-boxes.field-0.0 in
    let fails : Fails (read_all height_limit (reduced tokens)) fault.kind fault.span = subst (λ ts. Fails (read_all height_limit ts) fault.kind fault.span) cursor_is c.in_err-boxes.ensures in
    let h : RefusesTokens fault.kind fault.span tokens = refused fault.kind fault.span tokens fails in
    search rules

pub returns : goal.returns
returns c =
    let text = c.args.text.now in
    let tokens = map (token_at text) c.args.symbols.items in
    let cursor_is : c.new-cursor.result ≡ reduced tokens = c.new-cursor.ensures ∙ ap (map (token_at text)) c.as_slice.ensures.value ∙ c.reduce.ensures text in
    parsed c.in_ok-boxes.boxes tokens c.all.new.tokens (subst (λ ts. read_all height_limit ts ≡ Ok (c.in_ok-boxes.boxes, c.all.new.tokens)) cursor_is c.in_ok-boxes.ensures)
