-- Each way out says whatever parts are kept then.
use Rattle.zf_parts.proofs.Prelude.{◌∙◌, subst, sym, value_order, IsLater, option_copied}
use Rattle.zf_parts.proofs.Keeping.{adds_known, adds_new, adds_not_later}
use Rattle.zf_parts.proofs.collecting.add.Goals as goal

pub returns-then-not-is_later : goal.returns-then-not-is_later
returns-then-not-is_later g c =
    adds_not_later c.args.parts.places.now (option_copied c.args.parts.after) (g.S.Row.values c.args.search.now) c.args.is_out c.args.collected.now.entries c.in_ok-values.values c.in_ok-values.ensures
    (subst (λ vs. IsLater value_order (option_copied c.args.parts.after) vs → ⊥) c.as_slice.ensures c.if-not-is_later.ensures)

pub returns-then-contains_key : goal.returns-then-contains_key
returns-then-contains_key g c =
    adds_known c.args.parts.places.now (option_copied c.args.parts.after) (g.S.Row.values c.args.search.now) c.args.is_out c.args.collected.now.entries c.in_ok-values.values c.in_ok-values.ensures
    (sym c.contains_key.ensures ∙ c.if-contains_key.true)

pub returns : goal.returns
returns g c =
    adds_new c.args.parts.places.now (option_copied c.args.parts.after) (g.S.Row.values c.args.search.now) c.args.is_out c.args.collected.now.entries c.in_ok-values.values c.in_ok-values.ensures
    (subst (λ vs. IsLater value_order (option_copied c.args.parts.after) vs) c.as_slice.ensures c.if-not-is_later.ensures)
    (sym c.contains_key.ensures ∙ c.if-contains_key.false)
    c.in_ok-row.row c.in_ok-row.ensures c.insert.new.self.entries c.in_ok-insert.ensures.entries
