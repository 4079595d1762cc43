-- Fewer rows are ahead after a step that gives one which is out.
use Rattle.zf_parts.proofs.Prelude.{◌<◌, subst, sym, Out, value_order, Value, conjuncts_of, Goal, ahead_count, one_fewer, Advances, SameRanges, Stage, Breaks}
use Rattle.zf_value.specs.contracts.plain.ValueOrd.TheImpl.Laws as order_laws

pub goes_past : (g : Goal) (c d : Stage Value) → SameRanges c d → Advances value_order (conjuncts_of g) Breaks c d → ahead_count value_order d.ranges d.ahead < ahead_count value_order c.ranges c.ahead
goes_past g c d next (row, last, t) =
    subst (λ rs. ahead_count value_order rs d.ahead < ahead_count value_order c.ranges c.ahead) (sym next.ranges)
    (one_fewer value_order order_laws.total-law (conjuncts_of g) c.ranges c.after c.ahead d.ahead (record { row = row; truth = Out }) t)
