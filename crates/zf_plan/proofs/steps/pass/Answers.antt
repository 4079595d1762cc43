use Rattle.zf_plan.proofs.Prelude.{◌-◌, ◌<◌, ◌∙◌, ◌≡◌, arith, get_or_default, inr, is_reached, length, option_copied, picked, refl, subst, sym, take, true, Place, bit_or, Accuses, unmarked, Mark}
use Rattle.zf_plan.proofs.steps.pass.Goals as goal

pub returns : goal.returns
returns g c =
    let p : Place = c.args.place.now in
    let ranges = c.args.problem.now.ranges.now in
    let choices = p.marks.choices.items in
    let last = p.depth - 1 in
    let mark = c.index-mark.result.now in
    let word = c.layer.result.now.blame in
    let inside : last < length choices = omega (arith, c.requires.at.all_marks, c.requires.at.shallow, c.if-depth-eq0.false) in
    inr (
      last,
      omega (arith, c.if-depth-eq0.false),
      refl,
      subst (λ is. is_reached g.V.Ord.cmp (option_copied c.args.problem.now.after) (length ranges) (picked ranges (take p.depth is)) ≡ true) c.deref.ensures.value
          (sym c.is_reached.ensures ∙ c.if-not-is_reached.false),
      word,
      c.layer.ensures.layer.blame (omega (arith, c.if-depth-gt64.false)),
      subst (λ (m : Mark). Accuses last m.is_open (bit_or m.blame word) p.marks c.accuse-2.new.self) (c.index-mark.ensures ∙ get_or_default choices last mark unmarked inside) c.accuse-2.ensures,
    )
