use Rattle.zf_families.proofs.Prelude.{◌*◌, ◌+◌, ◌∙◌, ap, min, SET_MAX}
use Rattle.zf_families.proofs.CutCounts.{falling_turn}
use Rattle.zf_families.proofs.count.falling.Goals as goal

pub loop-turn-preserved : goal.loop-turn-preserved
loop-turn-preserved c =
    falling_turn c.args.from c.loop-turn.turn c.loop-turn.count c.product-count.result (SET_MAX + 1) c.loop-turn.invariant
    (c.product-count.ensures ∙ ap (λ n. min (c.loop-turn.count * n) (SET_MAX + 1)) c.saturating_sub.ensures)
