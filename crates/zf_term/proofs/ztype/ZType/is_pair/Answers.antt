use Rattle.std.proofs.Common.{length, sym, ap, ◌∙◌, true≢false}
use Rattle.std.proofs.lemmas.Bool.{eq-eqb, eqb-true}
use Rattle.zf_term.proofs.TypeForms.{is_product}
use Rattle.zf_term.proofs.TypeLists.{two_parts, one_pair}
use Rattle.zf_term.proofs.ztype.ZType.is_pair.Goals as goal

pub returns-in_default : goal.returns-in_default
returns-in_default c = (λ b. absurd (true≢false (sym b)), λ h. let p = is_product _ _ h.2 in absurd (c.in_default.not-Product p.0 p.1))

pub returns-in-Product : goal.returns-in-Product
returns-in-Product c = (
  λ b. one_pair _ _ c.in-Product.is (sym (c.len.ensures ∙ ap length c.get.ensures) ∙ eqb-true c.len.result 2 b),
  λ h. eq-eqb c.len.result 2 (c.len.ensures ∙ ap length c.get.ensures ∙ two_parts _ _ h.0 h.1 c.in-Product.is h.2),
)
