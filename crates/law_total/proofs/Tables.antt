-- The truth of a connective is that of its table.
use Rattle.law_total.proofs.Prelude.{◌≡◌, subst, sym, Truth, IsTruth, Connective, binary, ResolvedTree, connected, connected-told, one_truth}
use Rattle.zf_tree.specs.declared.operator.Operator.TheVariants as operator
use Rattle.law_total.specs.{ConnectivesByTable}
use Rattle.law_total.proofs.Terms.{some_truth}

pub by_table : ConnectivesByTable
by_table c l k a b u = (to_table, from_table)
  where
    whole : ResolvedTree
    whole = binary l (operator.Connective k) a b

    table : (p q : Truth) → IsTruth c a p → IsTruth c b q → IsTruth c whole (connected k p q)
    table p q h i = connected-told k p q (λ t. IsTruth c a t) (λ t. IsTruth c b t) h i

    to_table : IsTruth c whole u → (p q : Truth) × IsTruth c a p × IsTruth c b q × (u ≡ connected k p q)
    to_table h = let p = some_truth c a in let q = some_truth c b in (p.0, q.0, p.1, q.1, one_truth c whole u (connected k p.0 q.0) h (table p.0 q.0 p.1 q.1))

    from_table : ((p q : Truth) × IsTruth c a p × IsTruth c b q × (u ≡ connected k p q)) → IsTruth c whole u
    from_table h = subst (IsTruth c whole) (sym h.4) (table h.0 h.1 h.2 h.3)
