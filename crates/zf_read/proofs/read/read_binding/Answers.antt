use Rattle.zf_read.proofs.Prelude.{ap, arith, length, List, map, subst, sym, Value, comp_of, environment_of}
use Rattle.zf_read.proofs.Misfits.{passed}
use Rattle.zf_read.proofs.Onward.{no_further, no_component, one_component, no_more, line_read}
use Rattle.zf_read.proofs.SoFar.{RowSoFar, row_begun}
use Rattle.zf_read.proofs.read.read_binding.Goals as goal

pub loop-count-init : goal.loop-count-init
loop-count-init c =
    let e = environment_of c.args.env.now in
    let all = map comp_of c.args.flat.now.components in (
      omega arith,
      subst (λ (vs : List Value). RowSoFar c.args.spellings.now e all all c.args.text.now 0 vs c.args.text.now) (sym c.new-row.ensures.items)
          (row_begun c.args.spellings.now e all c.args.text.now),
    )

pub returns-in_err-start-clause-refused : goal.returns-in_err-start-clause-refused
returns-in_err-start-clause-refused c =
    let long = ap length c.as_slice-components.ensures in
    passed c.in_err-start.field-0.0 c.from_residual.result c.from_residual.ensures.1
    (no_further c.args.flat.now.components (omega (arith, long, c.loop-count-test.true)) c.loop-count.invariant.1) c.in_err-start.ensures.refused

pub returns-in_err-value-clause-refused : goal.returns-in_err-value-clause-refused
returns-in_err-value-clause-refused c =
    let long = ap length c.as_slice-components.ensures in
    passed c.in_err-value.field-0.0 c.from_residual-in_err-value.result c.from_residual-in_err-value.ensures.1
    (no_component c.args.flat.now.components _ (rw c.as_slice-components.ensures at c.index-components-count.is)
    (omega (arith, long, c.loop-count-test.true)) c.loop-count.invariant.1 c.in_ok-start.ensures.read.stands)
    c.in_err-value.ensures.refused

pub loop-count-preserved : goal.loop-count-preserved
loop-count-preserved c =
    let long = ap length c.as_slice-components.ensures in (
      c.in_ok-value.ensures.read.stands.within,
      one_component c.args.flat.now.components (rw c.as_slice-components.ensures at c.index-components-count.is)
          (omega (arith, long, c.loop-count-test.true)) c.loop-count.invariant.1 c.in_ok-start.ensures.read c.in_ok-value.ensures.read
          c.in_ok-push.ensures.items,
    )

pub returns-then-place-text-clause-refused : goal.returns-then-place-text-clause-refused
returns-then-place-text-clause-refused c =
    let long = ap length c.as_slice-components.ensures in
    no_more c.args.flat.now.components c.loop-count.place (omega (arith, long, c.loop-count-test.false)) (omega (arith, c.if-place-text.true))
    c.loop-count.invariant.1

pub returns-clause-read : goal.returns-clause-read
returns-clause-read c =
    let long = ap length c.as_slice-components.ensures in
    line_read c.args.flat.now.components c.loop-count.place (omega (arith, long, c.loop-count-test.false)) (omega (arith, c.if-place-text.false))
    c.loop-count.invariant.1
