use Rattle.zf_value.proofs.Prelude.{◌↔◌, IsTrue, rules, subst, sym, pair, IsMember, value_order, always_returns_same}
use Rattle.zf_value.proofs.Searched.{found}
use Rattle.zf_value.proofs.relation.is_pair_found.Goals as goal

pub returns : goal.returns
returns c =
    let searched = c.binary_search_by.ensures in
    let placed = searched.position (λ z. value_order z (pair c.args.x.now c.args.y.now)) (always_returns_same _ _ _ (λ a r q k. search rules)) in
    subst (λ b. IsTrue b ↔ IsMember (pair c.args.x.now c.args.y.now) c.args.values.now) (sym c.is_ok.ensures.value)
    (found (pair c.args.x.now c.args.y.now) c.args.values.now c.binary_search_by.result c.requires searched.bound placed)
