use Rattle.zf_meaning.proofs.Prelude.{subst, sym, IfSome, IsDifference, IsModulus, IsProduct, IsSum, IsQuotient, Is, Int, InfixOutcome, written-both}
use Rattle.zf_meaning.proofs.Numeric.{on-numbers}
use Rattle.zf_meaning.proofs.evaluate.numeric.of_numbers.Goals as goal

pub returns-in-Plus : goal.returns-in-Plus
returns-in-Plus c =
    subst (λ op. IfSome c.number_in.result (λ k. InfixOutcome op (Int c.args.m) (Int c.args.n) (Is (Int k)))) (sym c.in-Plus.is)
    (on-numbers IsSum c.args.m c.args.n c.sum.result c.number_in.result (written-both (λ x y. IsSum x y c.sum.result) c.args.m c.args.n c.ranges.m c.ranges.n c.sum.ensures) c.number_in.ensures)

pub returns-in-Minus : goal.returns-in-Minus
returns-in-Minus c =
    subst (λ op. IfSome c.number_in-in-Minus.result (λ k. InfixOutcome op (Int c.args.m) (Int c.args.n) (Is (Int k)))) (sym c.in-Minus.is)
    (on-numbers IsDifference c.args.m c.args.n c.difference.result c.number_in-in-Minus.result
    (written-both (λ x y. IsDifference x y c.difference.result) c.args.m c.args.n c.ranges.m c.ranges.n c.difference.ensures) c.number_in-in-Minus.ensures)

pub returns-in-Times : goal.returns-in-Times
returns-in-Times c =
    subst (λ op. IfSome c.number_in-in-Times.result (λ k. InfixOutcome op (Int c.args.m) (Int c.args.n) (Is (Int k)))) (sym c.in-Times.is)
    (on-numbers IsProduct c.args.m c.args.n c.product.result c.number_in-in-Times.result
    (written-both (λ x y. IsProduct x y c.product.result) c.args.m c.args.n c.ranges.m c.ranges.n c.product.ensures) c.number_in-in-Times.ensures)

pub returns-in-Div : goal.returns-in-Div
returns-in-Div c =
    subst (λ op. IfSome c.number_in-in-Div.result (λ k. InfixOutcome op (Int c.args.m) (Int c.args.n) (Is (Int k)))) (sym c.in-Div.is)
    (on-numbers IsQuotient c.args.m c.args.n c.quotient.result c.number_in-in-Div.result
    (written-both (λ x y. IsQuotient x y c.quotient.result) c.args.m c.args.n c.ranges.m c.ranges.n c.quotient.ensures) c.number_in-in-Div.ensures)

pub returns-in-Mod : goal.returns-in-Mod
returns-in-Mod c =
    subst (λ op. IfSome c.number_in-in-Mod.result (λ k. InfixOutcome op (Int c.args.m) (Int c.args.n) (Is (Int k)))) (sym c.in-Mod.is)
    (on-numbers IsModulus c.args.m c.args.n c.modulus.result c.number_in-in-Mod.result
    (written-both (λ x y. IsModulus x y c.modulus.result) c.args.m c.args.n c.ranges.m c.ranges.n c.modulus.ensures) c.number_in-in-Mod.ensures)
