use Rattle.zf_read.proofs.Prelude.{◌∙◌, arith, sym, Decides-eqb, slice_eq-Decides}
use Rattle.zf_read.proofs.Numbers.{never_both}
use Rattle.zf_read.proofs.SpelledTypes.{name_got, none_so_far}
use Rattle.zf_read.proofs.elements.named.Goals as goal

pub returns-then-eq : goal.returns-then-eq
returns-then-eq c =
    let same = (slice_eq-Decides Decides-eqb _ _ c.eq.result c.eq.ensures).0 c.if-eq.true in
    (omega arith, sym (name_got c.args.names.now c.loop-place.place c.index-names-place.result c.index-names-place.is (omega arith) ∙ sym c.as_slice.ensures ∙ same))

pub loop-place-preserved : goal.loop-place-preserved
loop-place-preserved c =
    let same = (slice_eq-Decides Decides-eqb _ _ c.eq.result c.eq.ensures).1 in
    none_so_far c.args.word.now c.args.names.now c.loop-place.place c.index-names-place.result c.index-names-place.is (omega arith)
    (λ h. never_both c.eq.result (same (c.as_slice.ensures ∙ h)) c.if-eq.false) c.loop-place.invariant
