use Rattle.zf_answers.proofs.Prelude.{◌++◌, ◌+◌, ◌<◌, ◌∙◌, ◌≡◌, ap, arith, length, length-map, List, map, Some, subst, ℕ, comp_of, drop, empty_line, empty_lines, read_at, slice_get}
use Rattle.std.proofs.Common.{Global, Vec}
use Rattle.zf_cores.specs.{chosen_of}
use Rattle.zf_term.specs.declared.schema.Component.{Component}
use Rattle.zf_why.proofs.Lists.{seen_at}
use Rattle.zf_answers.proofs.ChosenLines.{one_chosen, one_left}
use Rattle.zf_answers.proofs.reasons.append_all_empty.Goals.{then-chosen-place+in_ok-append_empty, else-chosen-place}
use Rattle.zf_answers.proofs.reasons.append_all_empty.Goals as goal

pub loop-place-preserved : goal.loop-place-preserved
loop-place-preserved c =
    let f = c.args.subject.now.style.now.format in
    let file = c.args.report.file.now in
    let source = c.args.report.source.now in
    let line = empty_line f file source in
    let cs = c.args.subject.now.schema.now.components in
    let m = c.args.chosen.now in
    let i = c.loop-place.place in
    let within : i < length (map comp_of cs) = omega (arith, c.loop-place-test.true, length-map cs comp_of, ap length c.as_slice-components.ensures) in
    let chosen : i < length m = omega (arith, within, c.requires) in
    elim c.if-chosen-place.branch [
      | then-chosen-place+in_ok-append_empty w ↦
          let x = w.index-components-place.result in
          one_chosen line (map comp_of cs) m i c.loop-place.lines.items _ c.loop-place.invariant (comp_of x) _
          (subst (λ (xs : List Component). slice_get (map comp_of xs) i ≡ Some (comp_of x)) c.as_slice-components.ensures
          (seen_at comp_of c.as_slice-components.result.now i x w.index-components-place.is c.loop-place-test.true))
          (read_at m i _ _ chosen w.if-chosen-place.true) (ap (λ (v : Vec ℕ Global). v.items) w.lines-is ∙ w.in_ok-append_empty.ensures)
      | else-chosen-place w ↦
          ap (λ (v : Vec ℕ Global). v.items ++ empty_lines f file source (chosen_of (drop (i + 1) (map comp_of cs)) (drop (i + 1) m))) w.lines-is
          ∙ one_left line (map comp_of cs) m i c.loop-place.lines.items _ c.loop-place.invariant within (read_at m i _ _ chosen w.if-chosen-place.false)
    ]
