use Rattle.zf_plan.proofs.Prelude.{◌≤◌, arith, inl, inr, length, refl, subst, sym, Place, PassesOpen}
use Rattle.zf_plan.proofs.search.leave.Goals.{else-count-place, then-count-place}
use Rattle.zf_plan.proofs.search.leave.Goals as goal

pub pass_event-requires : goal.pass_event-requires
pass_event-requires c = elim c.if-count-place.branch [
  | then-count-place w ↦ subst (λ (p : Place). p.depth ≤ length p.marks.choices.items) (sym w.place-is) (omega (arith, w.if-count-place.true, c.requires))
  | else-count-place w ↦ subst (λ (p : Place). p.depth ≤ length p.marks.choices.items) (sym w.place-is) c.requires
]

pub returns : goal.returns
returns c =
    let passed = λ (p : Place). PassesOpen p c.pass_event.new.place in
    elim c.if-count-place.branch [
      | then-count-place w ↦ (c.args.count, inr (refl, omega (arith, w.if-count-place.true)), subst passed w.place-is c.pass_event.ensures)
      | else-count-place w ↦ (c.args.place.now.depth, inl (refl, w.if-count-place.false), subst passed w.place-is c.pass_event.ensures)
    ]
