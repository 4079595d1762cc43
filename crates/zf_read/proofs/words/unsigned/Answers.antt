use Rattle.zf_read.proofs.Prelude.{◌∙◌, Decides-eqb, slice_eq-Decides}
use Rattle.zf_read.proofs.Numbers.{never_both, unsigned_utf8, unsigned_unparsed, unsigned_other}
use Rattle.zf_read.proofs.words.unsigned.Goals as goal

pub returns-in_default : goal.returns-in_default
returns-in_default c = λ n fits e. c.in_default.ensures.cases.0 (unsigned_utf8 c.args.word.now n fits e)

pub returns-in_default-parse : goal.returns-in_default-parse
returns-in_default-parse c = λ n fits e. unsigned_unparsed c.in-Ok.text.now c.parse.result _ c.in_default-parse.is c.parse.ensures.value.0 n fits (c.in-Ok.ensures.cases.0 ∙ e)

pub returns-else-eq : goal.returns-else-eq
returns-else-eq c = λ n fits e.
    let same = slice_eq-Decides Decides-eqb _ _ c.eq.result c.eq.ensures in
    unsigned_other c.in-Ok.text.now c.parse.result c.in-Ok-parse.number c.in-Ok-parse.is c.parse.ensures.value.0
    (λ h. let t = same.1 (c.as_bytes.ensures.value ∙ c.format.ensures.text ∙ h ∙ c.in-Ok.ensures.cases.0) in let f = c.if-eq.false in never_both c.eq.result t f) n fits (c.in-Ok.ensures.cases.0 ∙ e)
