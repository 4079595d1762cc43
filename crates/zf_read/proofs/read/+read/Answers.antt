use Rattle.zf_read.proofs.Prelude.{arith, subst, sym, IsAscending, rules}
use Rattle.zf_read.proofs.Misfits.{passed}
use Rattle.zf_read.proofs.Numbers.{never_both}
use Rattle.zf_read.proofs.Onward.{no_separator, no_part, one_part, no_end, parts_at, no_member_separator, no_member, one_member, no_room, members_at, pushed}
use Rattle.zf_read.proofs.Reading.{not_next, no_value_no_next}
use Rattle.zf_read.proofs.ValuesAt.{tuple_at, tuple_unopened, tuple_unread, set_at, set_unopened, set_unread}
use Rattle.zf_read.proofs.read.+read.Goals as goal

-- ---- the members of a set

pub read_members-returns-then-stands-clause-read : goal.read_members-returns-then-stands-clause-read
read_members-returns-then-stands-clause-read t c = members_at c.args.place c.loop-count.invariant.2 c.if-stands.ensures

pub read_members-returns-in_err-start-clause-refused : goal.read_members-returns-in_err-start-clause-refused
read_members-returns-in_err-start-clause-refused t c = passed c.in_err-start.field-0.0 c.from_residual.result c.from_residual.ensures.1
    (no_member_separator c.loop-count.invariant.1 c.loop-count.invariant.2 c.if-stands.ensures) c.in_err-start.ensures.refused

pub read_members-read_next-requires : goal.read_members-read_next-requires
read_members-read_next-requires t c = (search rules, (c.in_ok-start.ensures.read.within, subst IsAscending (sym c.deref.ensures.value) c.loop-count.invariant.2.members.ascending))

pub read_members-returns-in_err-value-clause-refused : goal.read_members-returns-in_err-value-clause-refused
read_members-returns-in_err-value-clause-refused t c = passed c.in_err-value.field-0.0 c.from_residual-in_err-value.result
    c.from_residual-in_err-value.ensures.1
    (no_member _ c.loop-count.invariant.1 c.deref.ensures.value c.loop-count.invariant.2 c.if-stands.ensures c.in_ok-start.ensures.read.stands)
    c.in_err-value.ensures.refused

pub read_members-loop-count-preserved : goal.read_members-loop-count-preserved
read_members-loop-count-preserved t c = (
  c.in_ok-value.ensures.read.value.stands.within,
  pushed c.loop-count.members.items c.in_ok-value.value c.loop-count.invariant.1 c.in_ok-push.ensures.items,
  one_member c.args.place c.loop-count.invariant.1 c.loop-count-test.true c.deref.ensures.value c.loop-count.invariant.2 c.if-stands.ensures
      c.in_ok-start.ensures.read c.in_ok-value.ensures.read c.in_ok-push.ensures.items,
)

pub read_members-returns-in_err-end-clause-refused : goal.read_members-returns-in_err-end-clause-refused
read_members-returns-in_err-end-clause-refused t c = passed c.in_err-end.field-0.0 c.from_residual-in_err-end.result c.from_residual-in_err-end.ensures.1
    (no_room c.loop-count.invariant.1 (omega (arith, c.loop-count-test.false, c.loop-count.auto.count-end)) c.loop-count.invariant.2)
    c.in_err-end.ensures.refused

pub read_members-returns-clause-read : goal.read_members-returns-clause-read
read_members-returns-clause-read t c = members_at c.args.place c.loop-count.invariant.2 c.in_ok-end.ensures.read

pub read_next-read_value-requires : goal.read_next-read_value-requires
read_next-read_value-requires t c = (search rules, c.requires.place)

pub read_next-returns-in_err-value-clause-refused : goal.read_next-returns-in_err-value-clause-refused
read_next-returns-in_err-value-clause-refused t c =
    passed c.in_err-value.field-0.0 c.from_residual.result c.from_residual.ensures.1 (no_value_no_next _ _ _ _ _) c.in_err-value.ensures.refused

pub read_next-returns-else-is_above-clause-refused : goal.read_next-returns-else-is_above-clause-refused
read_next-returns-else-is_above-clause-refused t c =
    let k = c.in_ok-value.ensures.read in
    not_next _ _ _ _ _ _ c.in_ok-value.value k.stands.stands k.value k.ends (λ up. never_both c.is_above.result (c.is_above.ensures.1 up) c.if-is_above.false)

-- ---- the parts of a tuple

pub read_parts-returns-in_err-start-clause-refused : goal.read_parts-returns-in_err-start-clause-refused
read_parts-returns-in_err-start-clause-refused t c = passed c.in_err-start.field-0.0 c.from_residual.result c.from_residual.ensures.1
    (no_separator c.args.parts.now c.loop-count-test.true c.loop-count.invariant.1) c.in_err-start.ensures.refused

pub read_parts-returns-in_err-value-clause-refused : goal.read_parts-returns-in_err-value-clause-refused
read_parts-returns-in_err-value-clause-refused t c = passed c.in_err-value.field-0.0 c.from_residual-in_err-value.result c.from_residual-in_err-value.ensures.1
    (no_part c.args.parts.now _ c.index-parts-count.is c.loop-count-test.true c.loop-count.invariant.1 c.in_ok-start.ensures.read.stands)
    c.in_err-value.ensures.refused

pub read_parts-loop-count-preserved : goal.read_parts-loop-count-preserved
read_parts-loop-count-preserved t c = (
  c.in_ok-value.ensures.read.stands.within,
  one_part c.args.parts.now c.args.place c.index-parts-count.is c.loop-count-test.true c.loop-count.invariant.1
      c.in_ok-start.ensures.read c.in_ok-value.ensures.read c.in_ok-push.ensures.items,
)

pub read_parts-returns-in_err-end-clause-refused : goal.read_parts-returns-in_err-end-clause-refused
read_parts-returns-in_err-end-clause-refused t c = passed c.in_err-end.field-0.0 c.from_residual-in_err-end.result c.from_residual-in_err-end.ensures.1
    (no_end c.args.parts.now (omega (arith, c.loop-count-test.false)) c.loop-count.invariant.1) c.in_err-end.ensures.refused

pub read_parts-returns-clause-read : goal.read_parts-returns-clause-read
read_parts-returns-clause-read t c = parts_at c.args.parts.now c.args.place (omega (arith, c.loop-count-test.false))
    c.loop-count.invariant.1 c.in_ok-end.ensures.read

-- ---- sets and tuples

pub read_set-returns-in_err-start-clause-refused : goal.read_set-returns-in_err-start-clause-refused
read_set-returns-in_err-start-clause-refused t c =
    passed c.in_err-start.field-0.0 c.from_residual.result c.from_residual.ensures.1 (set_unopened _ _ _ _) c.in_err-start.ensures.refused

pub read_set-returns-in_err-members-clause-refused : goal.read_set-returns-in_err-members-clause-refused
read_set-returns-in_err-members-clause-refused t c = passed c.in_err-members.field-0.0 c.from_residual-in_err-members.result
    c.from_residual-in_err-members.ensures.1
    (set_unread _ _ _ _ _ c.in_ok-start.ensures.read.stands) c.in_err-members.ensures.refused

pub read_set-returns-clause-read : goal.read_set-returns-clause-read
read_set-returns-clause-read t c = set_at c.in_ok-of.ensures c.in_ok-start.ensures.read c.in_ok-members.ensures.read

pub read_tuple-returns-in_err-start-clause-refused : goal.read_tuple-returns-in_err-start-clause-refused
read_tuple-returns-in_err-start-clause-refused t c =
    passed c.in_err-start.field-0.0 c.from_residual.result c.from_residual.ensures.1 (tuple_unopened _ _ _ _) c.in_err-start.ensures.refused

pub read_tuple-returns-in_err-values-clause-refused : goal.read_tuple-returns-in_err-values-clause-refused
read_tuple-returns-in_err-values-clause-refused t c = passed c.in_err-values.field-0.0 c.from_residual-in_err-values.result
    c.from_residual-in_err-values.ensures.1
    (tuple_unread _ _ _ _ _ c.in_ok-start.ensures.read.stands) c.in_err-values.ensures.refused

pub read_tuple-returns-clause-read : goal.read_tuple-returns-clause-read
read_tuple-returns-clause-read t c = tuple_at c.in_ok-of.ensures c.in_ok-start.ensures.read c.in_ok-values.ensures.read
