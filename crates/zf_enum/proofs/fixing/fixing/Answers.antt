use Rattle.zf_enum.proofs.Prelude.{resolved_of}
use Rattle.zf_enum.proofs.Equations.{some_weaker, equation_is}
use Rattle.zf_enum.proofs.fixing.fixing.Goals as goal

pub returns : goal.returns
returns c =
    let it = c.in_ok-it.it in
    let is = equation_is _ _ _ _ c.in_ok-it.ensures (c.is_equality.ensures c.if-not-is_equality.false) in
    some_weaker c.beside.result _ _ (λ side h. (is.0, resolved_of it.left.now, resolved_of it.right.now, is.1, h)) c.beside.ensures
