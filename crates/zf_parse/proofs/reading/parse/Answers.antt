use Rattle.zf_parse.proofs.Prelude.{◌∙◌, ap, map, subst, token_at, Parses}
use Rattle.zf_parse.proofs.reading.parse.Goals as goal

pub returns : goal.returns
returns c =
    subst (Parses c.parsed.result) (ap (λ t. map (token_at t) c.in_ok-text.field-0.symbols.items) c.into_bump_slice.ensures ∙ c.in_ok-text.ensures.same) c.parsed.ensures
