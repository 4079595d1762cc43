use Rattle.zf_meaning.proofs.Prelude.{◌∙◌, arith, sym, true≢false, take_all, Contains, names}
use Rattle.zf_meaning.proofs.Accepting.{lack-at, sized-more}
use Rattle.zf_meaning.proofs.sizes.check_sizes.Goals as goal

pub returns-then-not-is_sized-clause-err : goal.returns-then-not-is_sized-clause-err
returns-then-not-is_sized-clause-err c =
    let here : ¬ (Contains (names c.args.sizes.now) c.as_slice.result.now) = λ m. absurd (true≢false (sym (c.is_sized.ensures.1 m) ∙ c.if-not-is_sized.true)) in
    rw c.in_ok-copy.ensures
    (lack-at c.args.sets.now c.args.sizes.now c.loop-set.set-index c.set-item.result (omega arith) c.set-item.is c.in_ok-check_accepted.ensures.ok c.loop-set.invariant (rw c.as_slice.ensures at here))

pub loop-set-preserved : goal.loop-set-preserved
loop-set-preserved c =
    let here : Contains (names c.args.sizes.now) c.as_slice.result.now = c.is_sized.ensures.0 c.if-not-is_sized.false in
    sized-more c.args.sets.now c.args.sizes.now c.loop-set.set-index c.set-item.result (omega arith) c.set-item.is c.loop-set.invariant (rw c.as_slice.ensures at here)

pub returns-clause-ok : goal.returns-clause-ok
returns-clause-ok c = record {
  accepted = c.in_ok-check_accepted.ensures.ok;
  sized = rw (take_all c.loop-set.set-index c.args.sets.now (omega arith)) at c.loop-set.invariant;
}
