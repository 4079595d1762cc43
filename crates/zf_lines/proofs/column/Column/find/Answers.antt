use Rattle.zf_lines.proofs.Prelude.{◌%◌, ◌∙◌, ◌≡◌, ap, refl, Some, subst, slice_get_read, slice_get}
use Rattle.zf_lines.proofs.Keeping.{found}
use Rattle.zf_lines.proofs.column.Column.find.Goals as goal

pub returns-then-kept-place : goal.returns-then-kept-place
returns-then-kept-place c f h =
    let there = c.in-Some-Some.ensures.lookup in
    let at : slice_get c.deref.result.now (c.args.place % 2048) ≡ Some c.in-Some-Some.field-0.now = slice_get_read c.deref.result.now _
    (c.args.place % 2048) c.in-Some-Some.field-0.now refl there.3.0 there.1 in
    let slot : slice_get c.args.self.now.slots.items (c.args.place % 2048) ≡ Some (Some c.in-Some-Some.kept) =
    subst (λ slots. slice_get slots (c.args.place % 2048) ≡ Some (Some c.in-Some-Some.kept)) c.deref.ensures.value (at ∙ ap Some c.in-Some-Some.field-0-is) in
    c.as_slice.ensures ∙ found f c.args.self.now.slots.items (c.args.place % 2048) c.in-Some-Some.kept h slot ∙ ap f c.if-kept-place.true
