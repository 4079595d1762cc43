use Rattle.zf_enum.proofs.Prelude.{subst, sym, Is, ℤ, ◌+ℤ◌, ◌-ℤ◌, ◌*ℤ◌, IfOk-weaker, Int, InfixOutcome, Infix}
use Rattle.zf_enum.proofs.Spanning.{spans_fit}
use Rattle.zf_enum.proofs.Balanced.{sum_outcome, difference_outcome, product_outcome}
use Rattle.zf_enum.proofs.sums.combined.Goals as goal

pub returns-in-Plus : goal.returns-in-Plus
returns-in-Plus c =
    IfOk-weaker c.plus.result _ _
    (λ s h. (
      h.0,
      λ v m n g p q.
          let k = h.1 v m n p q in
          (m +ℤ n, subst (λ (op : Infix). InfixOutcome op (Int m) (Int n) (Is (Int (m +ℤ n)))) (sym c.in-Plus.is) (sum_outcome m n (spans_fit s v (m +ℤ n) h.0 g k)), k),
    ))
    c.plus.ensures

pub returns-in-Minus : goal.returns-in-Minus
returns-in-Minus c =
    IfOk-weaker c.minus.result _ _
    (λ s h. (
      h.0,
      λ v m n g p q.
          let k = h.1 v m n p q in
          (m -ℤ n, subst (λ (op : Infix). InfixOutcome op (Int m) (Int n) (Is (Int (m -ℤ n)))) (sym c.in-Minus.is) (difference_outcome m n (spans_fit s v (m -ℤ n) h.0 g k)), k),
    ))
    c.minus.ensures

pub returns-in-Times : goal.returns-in-Times
returns-in-Times c =
    IfOk-weaker c.product.result _ _
    (λ s h. (
      h.0,
      λ v m n g p q.
          let k = h.1 v m n p q in
          (m *ℤ n, subst (λ (op : Infix). InfixOutcome op (Int m) (Int n) (Is (Int (m *ℤ n)))) (sym c.in-Times.is) (product_outcome m n (spans_fit s v (m *ℤ n) h.0 g k)), k),
    ))
    c.product.ensures
