use Rattle.zf_shape.proofs.Prelude.{◌+◌, ◌<◌, ◌∙◌, ap, arith, length, map, refl, sym, all_nodes, conjunct_of, nodes, resolved_of, terms, anywhere}
use Rattle.zf_shape.proofs.Conjuncts.{as_many_nodes, left_by_joined, left_by_more, left_by_two, nodes_member, nodes_sides, nodes_term, same_left}
use Rattle.zf_shape.proofs.Joined.{all_in, batches_more, conjuncts_more, joined_nodes}
use Rattle.zf_shape.proofs.Nodes.{none_left}
use Rattle.zf_shape.proofs.conjunct.+room.Goals as goal

pub room_after_batches-loop-batch-preserved : goal.room_after_batches-loop-batch-preserved
room_after_batches-loop-batch-preserved t c =
    omega (arith, c.loop-batch.invariant, c.in_ok-left.ensures, batches_more _ _ _ c.batch-item.is c.loop-batch-test.true, ap (λ cs. all_nodes (terms (map conjunct_of cs))) c.get.ensures)

pub room_after_all-loop-conjunct-preserved : goal.room_after_all-loop-conjunct-preserved
room_after_all-loop-conjunct-preserved t c = omega (arith, c.loop-conjunct.invariant, c.in_ok-left.ensures, conjuncts_more _ _ _ c.conjunct-item.is c.loop-conjunct-test.true)

pub room_after-returns-in-Term : goal.room_after-returns-in-Term
room_after-returns-in-Term t c = same_left _ _ _ _ (nodes_term _ _ _ c.in-Term.is ∙ ap (λ u. nodes (resolved_of u)) (sym c.get.ensures)) c.room_after.ensures

pub room_after-returns-in_ok-checked_sub-in-Member : goal.room_after-returns-in_ok-checked_sub-in-Member
room_after-returns-in_ok-checked_sub-in-Member t c =
    left_by_more _ _ _ 2 c.in_ok-checked_sub-in-Member.field-0 c.args.room
    (nodes_member _ _ _ _ c.in-Member.is ∙ ap (λ u. nodes (resolved_of u) + 2) (sym c.get-in-Member.ensures))
    (omega (arith, c.in_ok-checked_sub-in-Member.ensures)) c.room_after-in-Member.ensures

pub room_after-returns-in_ok-behind_left-in-Either : goal.room_after-returns-in_ok-behind_left-in-Either
room_after-returns-in_ok-behind_left-in-Either t c =
    left_by_two _ _ _ _ c.in_ok-checked_sub-in-Either.field-0 c.in_ok-behind_left-in-Either.behind_left c.args.room
    (nodes_sides _ _ _ _ _ _ _ c.in-Either.is c.get-in-Either.ensures c.get-in-Either-2.ensures)
    (omega (arith, c.in_ok-checked_sub-in-Either.ensures)) c.in_ok-behind_left-in-Either.ensures c.room_after_joined-in-Either.ensures

pub room_after-returns-in_err-behind_left-in-Either : goal.room_after-returns-in_err-behind_left-in-Either
room_after-returns-in_err-behind_left-in-Either t c =
    none_left _ _ _ c.from_residual-in_err-behind_left-in-Either.ensures
    (omega (
      arith,
      nodes_sides _ _ _ _ c.in-Either.right _ _ c.in-Either.is c.get-in-Either.ensures refl,
      c.in_ok-checked_sub-in-Either.ensures,
      c.in_err-behind_left-in-Either.ensures,
    ))

pub room_after_joined-returns-in_err-rest : goal.room_after_joined-returns-in_err-rest
room_after_joined-returns-in_err-rest t c =
    none_left _ _ _ c.from_residual.ensures (omega (arith, c.in_err-rest.ensures, as_many_nodes (all_in c.args.batches.now)))

pub room_after_joined-returns : goal.room_after_joined-returns
room_after_joined-returns t c =
    let some : 0 < length (all_in c.args.batches.now) = omega (arith, c.in_ok-rest.ensures, c.if-rest-room.false) in
    left_by_joined _ _ _ _ c.in_ok-rest.rest c.args.room (joined_nodes anywhere (all_in c.args.batches.now) some) c.in_ok-rest.ensures
    c.room_after_batches.ensures
