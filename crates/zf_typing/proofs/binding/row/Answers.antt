use Rattle.zf_typing.proofs.Prelude.{◌∙◌, ◌∷◌, ◌≡◌, [], ap, append-nil, arith, length, List, map, sym, IfOk-weaker, pushed, type_of, var_type, Scope, Var, with_variables, scope_of, row_type}
use Rattle.zf_typing.proofs.Rows.{row_ahead, none_ahead, variables_within}
use Rattle.zf_typing.proofs.binding.row.Goals as goal

pub loop-place-preserved : goal.loop-place-preserved
loop-place-preserved c =
    let locals = c.args.scope.now.locals in
    let i = c.loop-place.place in
    let v = c.get.result.now in
    let t = c.in_ok-share.field-0 in
    record {
      rows = λ us h.
          pushed type_of c.loop-place.types c.push.new.self t us c.in_ok-push.ensures.ok
          ∙ c.loop-place.invariant.rows (type_of t ∷ us) (ap (λ u. type_of u ∷ us) c.in_ok-share.ensures ∙ ap (λ rest. type_of v.ztype ∷ rest) h
          ∙ row_ahead locals i v c.get.ensures (omega (arith, c.loop-place-test.true, c.len-place-end.ensures)));
    }

pub returns : goal.returns
returns c =
    let locals = c.args.scope.now.locals in
    IfOk-weaker c.row_of.result (λ t. (vs : List Var) → map type_of c.loop-place.types ≡ map var_type vs
    → type_of t ≡ row_type vs) (λ t. (s : Scope) (vs : List Var) → scope_of c.args.scope.now ≡ with_variables s vs → c.args.outside ≡ length s.locals
    → type_of t ≡ row_type vs)
    (λ t of s vs h e. of vs
    (sym (append-nil (map type_of c.loop-place.types))
    ∙ c.loop-place.invariant.rows [] (none_ahead locals c.loop-place.place (omega (arith, c.loop-place-test.false, c.len-place-end.ensures)))
    ∙ ap (map var_type) (variables_within c.args.scope.now s vs c.args.outside h e)))
    c.row_of.ensures
