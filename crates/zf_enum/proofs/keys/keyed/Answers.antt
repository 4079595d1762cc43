use Rattle.zf_enum.proofs.Prelude.{ap, arith, resolved_of, due}
use Rattle.zf_enum.proofs.Equations.{some_weaker, equation_is}
use Rattle.zf_enum.proofs.Keying.{sides-due}
use Rattle.zf_enum.proofs.keys.keyed.Goals as goal

pub key_first-requires : goal.key_first-requires
key_first-requires c =
    let is = equation_is _ _ _ _ c.in_ok-it.ensures (c.is_equality.ensures c.if-not-is_equality.false) in
    let d = sides-due is.0 (resolved_of c.in_ok-it.it.left.now) (resolved_of c.in_ok-it.it.right.now) in
    record { left = omega (arith, c.requires, ap due is.1, d.0); right = omega (arith, c.requires, ap due is.1, d.1) }

pub returns : goal.returns
returns c =
    let it = c.in_ok-it.it in
    let is = equation_is _ _ _ _ c.in_ok-it.ensures (c.is_equality.ensures c.if-not-is_equality.false) in
    some_weaker c.key_first.result _ _ (λ s h. (is.0, resolved_of it.left.now, resolved_of it.right.now, is.1, h)) c.key_first.ensures
