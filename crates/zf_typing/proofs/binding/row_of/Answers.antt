use Rattle.zf_typing.proofs.Prelude.{◌∙◌, ◌≡◌, List, map, IfOk-weaker, product, type_of, types, var_type, Var, row_type}
use Rattle.zf_typing.proofs.Rows.{of_many}
use Rattle.zf_typing.proofs.binding.row_of.Goals as goal

pub returns-then-len-ne1 : goal.returns-then-len-ne1
returns-then-len-ne1 c =
    let ts = c.args.types in
    IfOk-weaker c.product_type.result (λ t. type_of t ≡ product (types (map type_of ts))) (λ t. (vs : List Var) → map type_of ts ≡ map var_type vs → type_of t ≡ row_type vs)
    (λ t is vs h. is ∙ of_many ts vs (λ e. c.if-len-ne1.true (c.len.ensures ∙ e)) h)
    c.product_type.ensures
