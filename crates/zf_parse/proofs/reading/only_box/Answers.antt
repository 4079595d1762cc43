use Rattle.zf_parse.proofs.Prelude.{◌∙◌, ◌≡◌, ap, List, map, subst, token_at, reduced, height_limit, ReadsBox, box_of, read_only, Symbol, Fails}
use Rattle.zf_parse.proofs.BoxByBox.{box_read, only_refused}
use Rattle.zf_parse.proofs.reading.only_box.Goals as goal

pub returns-in-Ok : goal.returns-in-Ok
returns-in-Ok c =
    let text = c.args.text.now in
    let cursor_is : c.new-cursor.result ≡ reduced (map (token_at text) c.args.symbols.now.items) = c.new-cursor.ensures ∙ ap (map (token_at text)) c.as_slice.ensures.value ∙ c.reduce.ensures text in
    subst (ReadsBox (box_of c.in-Ok.next)) cursor_is (box_read c.in-Ok.next _ _ c.in-Ok.ensures)

pub returns-in-Err : goal.returns-in-Err
returns-in-Err c =
    let text = c.args.text.now in
    let cursor_is : c.new-cursor.result ≡ reduced (map (token_at text) c.args.symbols.now.items) = c.new-cursor.ensures ∙ ap (map (token_at text)) c.as_slice.ensures.value ∙ c.reduce.ensures text in
    let fault = c.in-Err.fault in
    only_refused fault.kind fault.span _ (subst (λ (ts : List Symbol). Fails (read_only height_limit ts) fault.kind fault.span) cursor_is c.in-Err.ensures)
