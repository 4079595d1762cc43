use Rattle.zf_scan.proofs.Prelude.{◌++◌, ◌∙◌, ◌∷◌, ◌≡◌, [], ap, length, rules, subst, sym, ℕ, next_of, amount, IsLaid, spelling, Next, Placed}
use Rattle.zf_scan.proofs.LaidOut.{added}
use Rattle.zf_scan.proofs.laid.Laid.add.Goals as goal

pub returns : goal.returns
returns c = λ before l.
    let t = c.args.token.now in
    let text = c.args.self.now.text.items in
    let symbols = c.args.self.now.symbols.items in
    let more = spelling t.kind in
    let placed : Next → ℕ → ℕ → ℕ → Placed = λ (next : Next) (start stop amount : ℕ). record { next = next; span = t.span; start = start; stop = stop; amount = amount } in
    let text_is : c.spell.new.text.items ≡ text ++ more = c.in_ok-spell.ensures in
    let start : c.len-start.result ≡ length text = search rules in
    let stop_is : c.len.result ≡ length c.spell.new.text.items = search rules in
    let stop : c.len.result ≡ length (text ++ more) = stop_is ∙ ap length text_is in
    let placed_is : placed c.next_of.result c.len-start.result c.len.result c.amount.result ≡ placed (next_of t.kind) (length text) (length (text ++ more)) (amount t.kind) =
    ap (λ n. placed n c.len-start.result c.len.result c.amount.result) c.next_of.ensures
    ∙ ap (λ n. placed (next_of t.kind) n c.len.result c.amount.result) start
    ∙ ap (λ n. placed (next_of t.kind) (length text) n c.amount.result) stop
    ∙ ap (placed (next_of t.kind) (length text) (length (text ++ more))) c.amount.ensures in
    let symbols_is : c.push.new.self.items ≡ symbols ++ placed (next_of t.kind) (length text) (length (text ++ more))
    (amount t.kind) ∷ [] = c.in_ok-push.ensures.items ∙ ap (λ p. symbols ++ p ∷ []) placed_is in
    subst (λ ps. IsLaid c.spell.new.text.items ps (before ++ t ∷ [])) (sym symbols_is)
    (subst (λ s. IsLaid s (symbols ++ placed (next_of t.kind) (length text) (length (text ++ more)) (amount t.kind) ∷ []) (before ++ t ∷ [])) (sym text_is)
    (added text symbols before t l))
