use Rattle.zf_read.proofs.Prelude.{◌∙◌, ap, arith, Component, rules, sym}
use Rattle.zf_read.proofs.HeldSoFar.{another_name, has_value, is_named, none_at_all, none_further}
use Rattle.zf_read.proofs.held.named_at.Goals.{else-is_none-via-then-is_none+else-is_word, else-is_none-via-else-is_none}
use Rattle.zf_read.proofs.held.named_at.Goals as goal

pub returns-then-is_word : goal.returns-then-is_word
returns-then-is_word c =
    let long = c.requires.all in
    is_named c.args.components.now c.args.held.now _ _ c.loop-next.next c.index-components-next.result _ c.index-components-next.is (omega (arith, c.loop-next-test.true))
    c.index-held-next.is (omega (arith, long, c.loop-next-test.true)) (search rules)
    (c.as_slice.ensures ∙ ap (λ (x : Component). x.name) (sym c.index-components-next.is)) c.if-is_word.ensures

pub loop-next-preserved : goal.loop-next-preserved
loop-next-preserved c =
    let long = c.requires.all in
    let near = c.loop-next-test.true in
    none_further _ _ _ c.loop-next.next c.loop-next.invariant (elim c.else-is_none.branch [
      | else-is_none-via-then-is_none+else-is_word w ↦ another_name c.args.components.now c.args.held.now _ _ c.loop-next.next w.index-components-next.result w.index-components-next.is (omega (arith, near))
          (w.as_slice.ensures ∙ ap (λ (x : Component). x.name) (sym w.index-components-next.is)) w.if-is_word.ensures
      | else-is_none-via-else-is_none w ↦ has_value c.args.components.now c.args.held.now _ c.loop-next.next _ c.index-held-next.is (omega (arith, long, near)) (search rules)
    ])

pub returns : goal.returns
returns c = none_at_all c.args.components.now c.args.held.now _ c.loop-next.next (omega (arith, c.loop-next-test.false)) c.loop-next.invariant
