use Rattle.zf_checker.proofs.Prelude.{◌≡◌, ◌++◌, refl, ap, ◌∙◌, arith, codes, both}
use Rattle.zf_checker.proofs.Lines.{first_choice, next_choice}
use Rattle.zf_checker.proofs.listing.append_choices.Goals as goal
use Rattle.zf_checker.proofs.listing.append_choices.Goals.{then-i-gt0+in_ok-extend_from_slice, else-i-gt0}

pub loop-i-preserved : goal.loop-i-preserved
loop-i-preserved c =
    let named : c.extend_from_slice-in-loop-i.new.self.items ≡ c.if-i-gt0.text.items ++ c.index-names-i.result =
    c.in_ok-extend_from_slice-2.ensures.items ∙ ap (λ name. c.if-i-gt0.text.items ++ name) c.as_slice.ensures in
    elim c.if-i-gt0.branch [
      | then-i-gt0+in_ok-extend_from_slice w ↦
          let joined : c.if-i-gt0.text.items ≡ c.loop-i.text.items ++ codes " | " = ap (λ v. v.items) w.text-is ∙ w.in_ok-extend_from_slice.ensures.items in
          both _ _ _ _ _ (both _ _ _ _ _ c.loop-i.invariant joined refl) named (next_choice c.args.names.now c.loop-i.i _ c.index-names-i.is (omega arith) w.if-i-gt0.true)
      | else-i-gt0 w ↦
          let same : c.if-i-gt0.text.items ≡ c.loop-i.text.items = ap (λ v. v.items) w.text-is in
          both _ _ _ _ _ (same ∙ c.loop-i.invariant) named (first_choice c.args.names.now c.loop-i.i _ c.index-names-i.is (omega arith) (omega arith))
    ]
