-- The values at places of a row, place by place.
use Rattle.std.proofs.Common.{◌++◌, ◌∷◌, [], ap, append-nil, None, refl, slice_get, Some, sym}
use Rattle.zf_places.proofs.Picked.{filter_push, past_none}
use Rattle.zf_places.proofs.places.values_at.Goals as goal
use Rattle.zf_places.proofs.places.values_at.Goals.{then-place-len+in_ok-copy+in_ok-push, else-place-len}

pub loop-place-preserved : goal.loop-place-preserved
loop-place-preserved g c =
    let row = g.R.Row.values c.args.row.now in
    let old = c.loop-place.values.items in
    elim c.if-place-len.branch [
      | then-place-len+in_ok-copy+in_ok-push w ↦
          rw w.values-is (rw w.in_ok-push.ensures.items (filter_push (slice_get row) c.args.places.now c.loop-place.place-index _ _ old _ (Some w.get.result.now)
          refl c.loop-place-test.true c.loop-place.invariant (sym w.get.ensures) (ap (λ v. old ++ v ∷ []) w.in_ok-copy.ensures)))
      | else-place-len w ↦
          rw w.values-is (filter_push (slice_get row) c.args.places.now c.loop-place.place-index _ _ old old None
          refl c.loop-place-test.true c.loop-place.invariant (past_none row _ c.len.result c.len.ensures w.if-place-len.false) (sym (append-nil old)))
    ]
