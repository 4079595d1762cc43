use Rattle.zf_scan.proofs.Prelude.{◌+◌, ◌∙◌, ◌≡◌, ap, drop, None, sym, take, look_up, symbols, seen, match_of, Strokes}
use Rattle.zf_scan.specs.declared.next.Next.TheVariants as next
use Rattle.zf_scan.specs.declared.pieces.Lexeme.TheVariants as lexeme
use Rattle.zf_scan.specs.Steps as steps
use Rattle.zf_scan.proofs.Spelled.{word_told}
use Rattle.zf_scan.proofs.inside.word_at.Goals as goal

pub returns-in-None : goal.returns-in-None
returns-in-None c =
    let s = c.args.rest.now in
    let base : c.base_len-base.result ≡ steps.base_len s = c.base_len-base.ensures.value in
    let strokes : c.run_len-strokes.result ≡ steps.strokes_len s = c.run_len-strokes.ensures.value ∙ ap (steps.run_len Strokes) (c.after.ensures ∙ ap (λ n. drop n s) base) in
    let len : c.base_len-base.result + c.run_len-strokes.result ≡ steps.word_len s = ap (λ n. n + c.run_len-strokes.result) base ∙ ap (λ n. steps.base_len s + n) strokes in
    let text : c.front.result.now ≡ take (steps.word_len s) s = c.front.ensures ∙ ap (λ n. take n s) len in
    let none : look_up (take (steps.word_len s) s) symbols ≡ None = sym (ap (λ t. look_up t symbols) text) ∙ sym c.fixed_word.ensures ∙ ap (seen c.front.result.now) c.in-None.is in
    ap (λ n. match_of s (record { lexeme = lexeme.Symbol next.Name; amount = n; len = c.base_len-base.result + c.run_len-strokes.result })) base
    ∙ ap (λ n. match_of s (record { lexeme = lexeme.Symbol next.Name; amount = steps.base_len s; len = n })) len
    ∙ word_told s none
