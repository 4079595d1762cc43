use Rattle.std.proofs.Common.{length, ap, ◌∙◌}
use Rattle.zf_term.proofs.TypeForms.{is_product}
use Rattle.zf_term.proofs.TypeLists.{two_parts, two_made}
use Rattle.zf_term.proofs.ztype.ZType.pair.Goals as goal

pub returns-in_default : goal.returns-in_default
returns-in_default c t u e = let p = is_product _ _ e in c.in_default.not-Product p.0 p.1

pub returns-then-parts-ne2 : goal.returns-then-parts-ne2
returns-then-parts-ne2 c t u h = c.if-parts-ne2.true (ap length (c.as_slice-parts.ensures ∙ c.get.ensures) ∙ two_parts c.args.self.now c.in-Product.parts t u c.in-Product.is h)

pub returns : goal.returns
returns c =
    two_made c.args.self.now c.in-Product.parts c.as_slice-parts.result.now c.index-parts-0.result c.index-parts-1.result c.in-Product.is
    (c.as_slice-parts.ensures ∙ c.get.ensures) c.if-parts-ne2.false c.index-parts-0.is c.index-parts-1.is
