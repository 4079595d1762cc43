use Rattle.zf_sorts.proofs.Prelude.{IfOk-weaker, sort_of, IsMade}
use Rattle.zf_sorts.proofs.Taken.{IsAlike, alike, compared}
use Rattle.zf_sorts.proofs.rules.combine.Goals as goal

pub returns-in-Arithmetic : goal.returns-in-Arithmetic
returns-in-Arithmetic c =
    let x = sort_of c.args.left.now in
    let y = sort_of c.args.right.now in
    IfOk-weaker c.alike.result (IsAlike c.args.rule x y) (IsMade c.args.rule x y) (λ o h. alike c.args.rule x y o c.in-Arithmetic.is h) c.alike.ensures

pub returns-in-Equating : goal.returns-in-Equating
returns-in-Equating c = compared _ _ _ _ c.in-Equating.is c.compared.ensures
