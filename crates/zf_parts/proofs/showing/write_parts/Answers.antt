-- Each way out says of whatever parts are kept what is written of them.
use Rattle.zf_parts.proofs.Prelude.{◌∙◌, ◌∷◌, ap, rules, always_on_err, part_wording, schema_of}
use Rattle.zf_parts.proofs.Results.{known_if_ok, weaker_on_err}
use Rattle.zf_parts.proofs.Writing.{ends, ends_at_limit, ends_out, nothing_yet, one_line, stops_in_end, stops_in_line, stops_in_more, stops_in_out}
use Rattle.zf_parts.proofs.showing.write_parts.Goals as goal

pub loop-values-init : goal.loop-values-init
loop-values-init g c =
    let w = part_wording c.args.style.now.format c.args.style.now.elements.now (schema_of c.args.parts.schema.now).comps (schema_of c.args.parts.flat.now).comps in (
      nothing_yet w _ _ _ _ (c.into_iter-values-iterator.ensures.into_iter_gives ∙ c.iter-values-items.ensures.rest),
      c.requires.limited,
      c.requires.unfailed,
    )

pub returns-in-Some-row-clause-ok : goal.returns-in-Some-row-clause-ok
returns-in-Some-row-clause-ok g c =
    let w = part_wording c.args.style.now.format c.args.style.now.elements.now (schema_of c.args.parts.schema.now).comps (schema_of c.args.parts.flat.now).comps in
    let next = c.in-Some.ensures.steps ∙ ap (λ o. (c.in-Some.values.now, o) ∷ c.next.new.self) c.in-Some-row.is in
    known_if_ok _ _ (λ status is appends. ends_out w _ _ _ _ _ _ c.loop-values.invariant.0 c.loop-values.invariant.1 _ _ _ next _ status is appends)
    (rw c.as_slice.ensures at c.write_out.ensures.ok) c.write_out.ensures.status

pub returns-in-Some-row-clause-err : goal.returns-in-Some-row-clause-err
returns-in-Some-row-clause-err g c =
    let w = part_wording c.args.style.now.format c.args.style.now.elements.now (schema_of c.args.parts.schema.now).comps (schema_of c.args.parts.flat.now).comps in
    let next = c.in-Some.ensures.steps ∙ ap (λ o. (c.in-Some.values.now, o) ∷ c.next.new.self) c.in-Some-row.is in
    weaker_on_err _ (stops_in_out w _ _ _ _ _ _ c.loop-values.invariant.0 c.loop-values.invariant.1 _ _ _ next _) (rw c.as_slice.ensures at c.write_out.ensures.err)

pub returns-in_err-write_part-in-None-row-clause-err : goal.returns-in_err-write_part-in-None-row-clause-err
returns-in_err-write_part-in-None-row-clause-err g c =
    let w = part_wording c.args.style.now.format c.args.style.now.elements.now (schema_of c.args.parts.schema.now).comps (schema_of c.args.parts.flat.now).comps in
    let next = c.in-Some.ensures.steps ∙ ap (λ o. (c.in-Some.values.now, o) ∷ c.next.new.self) c.in-None-row.is in
    always_on_err _ (stops_in_line w _ _ _ _ _ _ c.loop-values.invariant.0 c.loop-values.invariant.1 _ _ next _
    (rw c.as_slice-in-None-row.ensures at c.in_err-write_part-in-None-row.ensures.err))

pub returns-then-is_spent-clause-ok : goal.returns-then-is_spent-clause-ok
returns-then-is_spent-clause-ok g c =
    let w = part_wording c.args.style.now.format c.args.style.now.elements.now (schema_of c.args.parts.schema.now).comps (schema_of c.args.parts.flat.now).comps in
    let next = c.in-Some.ensures.steps ∙ ap (λ o. (c.in-Some.values.now, o) ∷ c.next.new.self) c.in-None-row.is in
    let more = one_line w _ _ _ _ _ _ c.loop-values.invariant.0 c.loop-values.invariant.1 _ _ next _ _ c.one_less-left.ensures
    (rw c.as_slice-in-None-row.ensures at c.in_ok-write_part-in-None-row.ensures.ok) in
    known_if_ok _ _ (λ status is appends. ends_at_limit w _ _ _ _ _ _ more c.if-is_spent.ensures _ status is appends) c.write_last.ensures.ok c.write_last.ensures.status

pub returns-then-is_spent-clause-err : goal.returns-then-is_spent-clause-err
returns-then-is_spent-clause-err g c =
    let w = part_wording c.args.style.now.format c.args.style.now.elements.now (schema_of c.args.parts.schema.now).comps (schema_of c.args.parts.flat.now).comps in
    let next = c.in-Some.ensures.steps ∙ ap (λ o. (c.in-Some.values.now, o) ∷ c.next.new.self) c.in-None-row.is in
    let more = one_line w _ _ _ _ _ _ c.loop-values.invariant.0 c.loop-values.invariant.1 _ _ next _ _ c.one_less-left.ensures
    (rw c.as_slice-in-None-row.ensures at c.in_ok-write_part-in-None-row.ensures.ok) in
    weaker_on_err _ (stops_in_more w _ _ _ _ _ _ more c.if-is_spent.ensures _) c.write_last.ensures.err

pub loop-values-preserved : goal.loop-values-preserved
loop-values-preserved g c =
    let w = part_wording c.args.style.now.format c.args.style.now.elements.now (schema_of c.args.parts.schema.now).comps (schema_of c.args.parts.flat.now).comps in
    let next = c.in-Some.ensures.steps ∙ ap (λ o. (c.in-Some.values.now, o) ∷ c.next.new.self) c.in-None-row.is in (
      one_line w _ _ _ _ _ _ c.loop-values.invariant.0 c.loop-values.invariant.1 _ _ next _ _ c.one_less-left.ensures
          (rw c.as_slice-in-None-row.ensures at c.in_ok-write_part-in-None-row.ensures.ok),
      c.if-is_spent.ensures,
      (search rules),
    )

pub returns-clause-ok : goal.returns-clause-ok
returns-clause-ok g c =
    let w = part_wording c.args.style.now.format c.args.style.now.elements.now (schema_of c.args.parts.schema.now).comps (schema_of c.args.parts.flat.now).comps in
    known_if_ok _ _ (λ status is appends. ends w _ _ _ _ _ _ c.loop-values.invariant.0 c.loop-values.invariant.1 c.in-None.ensures.steps.0 _ status is appends)
    c.write_last-2.ensures.ok c.write_last-2.ensures.status

pub returns-clause-err : goal.returns-clause-err
returns-clause-err g c =
    let w = part_wording c.args.style.now.format c.args.style.now.elements.now (schema_of c.args.parts.schema.now).comps (schema_of c.args.parts.flat.now).comps in
    weaker_on_err _ (stops_in_end w _ _ _ _ _ _ c.loop-values.invariant.0 c.loop-values.invariant.1 c.in-None.ensures.steps.0 _) c.write_last-2.ensures.err
