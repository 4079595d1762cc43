use Rattle.zf_read.proofs.Prelude.{◌∙◌, sym, Decides-eqb, slice_eq-Decides}
use Rattle.zf_read.proofs.Numbers.{never_both, parsed_again, printed_same, signed_utf8, signed_unparsed, signed_other}
use Rattle.zf_read.proofs.words.signed.Goals as goal

pub returns-in_default : goal.returns-in_default
returns-in_default c = λ n fits e. c.in_default.ensures.cases.0 (signed_utf8 c.args.word.now n fits e)

pub returns-in_default-parse : goal.returns-in_default-parse
returns-in_default-parse c = λ n fits e. signed_unparsed c.in-Ok.text.now c.parse.result _ c.in_default-parse.is c.parse.ensures.value.0 n fits (c.in-Ok.ensures.cases.0 ∙ e)

pub returns-else-eq : goal.returns-else-eq
returns-else-eq c = λ n fits e.
    let same = slice_eq-Decides Decides-eqb _ _ c.eq.result c.eq.ensures in
    signed_other c.in-Ok.text.now c.parse.result c.in-Ok-parse.number c.in-Ok-parse.is c.parse.ensures.value.0
    (λ h. let t = same.1 (c.as_bytes.ensures.value ∙ c.format.ensures.text
    ∙ printed_same c.in-Ok.text.now c.parse.result c.in-Ok-parse.number c.in-Ok-parse.is c.parse.ensures.value.0 ∙ h ∙ c.in-Ok.ensures.cases.0) in let f
    = c.if-eq.false in never_both c.eq.result t f) n fits (c.in-Ok.ensures.cases.0 ∙ e)

pub returns-then-eq : goal.returns-then-eq
returns-then-eq c =
    let alike = (slice_eq-Decides Decides-eqb _ _ c.eq.result c.eq.ensures).0 c.if-eq.true in
    (parsed_again c.in-Ok.text.now c.parse.result c.in-Ok-parse.number c.in-Ok-parse.is c.parse.ensures.value.0, sym alike ∙ c.as_bytes.ensures.value ∙ c.format.ensures.text)
