use Rattle.zf_families.proofs.Prelude.{◌∙◌, ◌∷◌, ◌≡◌, [], IfOk-weaker, arrow_rows}
use Rattle.zf_tree.specs.declared.symbol.Arrow.TheVariants as kind
use Rattle.zf_families.proofs.Constant.{constant_rows}
use Rattle.zf_families.proofs.arrow.total_rows.Goals as goal

pub returns-in-len1 : goal.returns-in-len1
returns-in-len1 c =
    let same : c.in_ok-constant.field-0.items ∷ [] ≡ arrow_rows kind.TotalFunction c.args.a.now c.args.b.now =
    constant_rows c.args.a.now c.args.b.now c.y-item.result c.in_ok-constant.field-0.items c.in-len1.len_at_least c.in-len1.len_below c.y-item.is c.in_ok-constant.ensures in
    IfOk-weaker c.one_row_of.result (λ rows. rows.items ≡ c.in_ok-constant.field-0.items ∷ []) (λ rows. rows.items ≡ arrow_rows kind.TotalFunction c.args.a.now c.args.b.now) (λ rows e. e ∙ same) c.one_row_of.ensures
