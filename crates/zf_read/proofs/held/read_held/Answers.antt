use Rattle.zf_read.proofs.Prelude.{arith, rules}
use Rattle.zf_read.proofs.HeldSoFar.{all_read, free_within, none_read, nothing_read, one_more}
use Rattle.zf_read.proofs.Misfits.{passed}
use Rattle.zf_read.proofs.held.read_held.Goals as goal

pub loop-place-init : goal.loop-place-init
loop-place-init c = nothing_read c.args.flat.now.components c.args.text.now _ (rw c.as_slice-components.ensures at c.in_ok-held.ensures)

pub index_mut-requires : goal.index_mut-requires
index_mut-requires c =
    let part = rw (c.deref.ensures.value, c.as_slice-components.ensures) at c.in_ok-next.ensures.read in
    let within = free_within part in
    search (rules, within)

pub loop-place-preserved : goal.loop-place-preserved
loop-place-preserved c =
    let part = rw (c.deref.ensures.value, c.as_slice-components.ensures) at c.in_ok-next.ensures.read in
    one_more c.args.flat.now.components c.args.text.now c.loop-place.count c.loop-place.place c.in_ok-next.next c.loop-place.held.items c.in_ok-next.value c.in_ok-next.end
    c.loop-place.invariant.1 c.loop-place.invariant.2 c.loop-place.invariant.3 part

pub returns-clause-read : goal.returns-clause-read
returns-clause-read c = all_read c.args.flat.now.components c.args.text.now c.loop-place.count c.loop-place.place c.loop-place.held.items (omega (arith, c.loop-place-test.false)) c.loop-place.invariant.3

pub returns-in_err-next-clause-refused : goal.returns-in_err-next-clause-refused
returns-in_err-next-clause-refused c = passed c.in_err-next.field-0.0 c.from_residual-in_err-next.result c.from_residual-in_err-next.ensures.1
    (none_read c.loop-place.invariant.3) (rw (c.deref.ensures.value, c.as_slice-components.ensures) at c.in_err-next.ensures.refused)
