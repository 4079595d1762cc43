-- What is written is the lines, the end, and the number of tests.
use Rattle.zf_lines.proofs.Prelude.{◌++◌, ◌∙◌, ap, inr, List, refl, sym, true, ℕ, Appends-trans, schema_of, last_text, row_wording, tests_line, unwrap_or, []}
use Rattle.zf_lines.proofs.Fronts.{always_on_err, front_behind, front_longer, front_whole}
use Rattle.zf_lines.proofs.Searching.{all_text}
use Rattle.zf_lines.proofs.Telling.{number_told}
use Rattle.zf_lines.proofs.show.show_with_tests.Goals as goal

pub returns-in_err-append_last-clause-err : goal.returns-in_err-append_last-clause-err
returns-in_err-append_last-clause-err g c =
    let number = number_told (row_wording c.args.style.now.format c.args.style.now.elements.now (schema_of c.args.flat.now).comps)
    (schema_of c.args.flat.now) c.args.bindings.now c.write_lines.new.search c.requires.start c.in_ok-ending.ensures.same.0 c.in_ok-ending.ensures.same.1
    c.in_ok-ending.ensures.counts in
    always_on_err _ (inr (
      _,
      _,
      all_text _ _ _ _ _ true _ _ _ _ _ _ c.in_ok-ending.ensures.ok _ refl number refl,
      front_longer _ _ _ _ (front_whole _ _ _ c.in_ok-ending.ensures.ok.written),
    ))

pub returns-in_err-append_tests_line-clause-err : goal.returns-in_err-append_tests_line-clause-err
returns-in_err-append_tests_line-clause-err g c =
    let number = number_told (row_wording c.args.style.now.format c.args.style.now.elements.now (schema_of c.args.flat.now).comps)
    (schema_of c.args.flat.now) c.args.bindings.now c.write_lines.new.search c.requires.start c.in_ok-ending.ensures.same.0 c.in_ok-ending.ensures.same.1
    c.in_ok-ending.ensures.counts in
    always_on_err _ (inr (
      _,
      _,
      all_text _ _ _ _ _ true _ _ _ _ _ _ c.in_ok-ending.ensures.ok _ refl number refl,
      front_longer _ _ _ _ (front_whole _ _ _ c.in_ok-ending.ensures.ok.written),
    ))

pub returns-in_err-write_text-clause-err : goal.returns-in_err-write_text-clause-err
returns-in_err-write_text-clause-err g c =
    let number = number_told (row_wording c.args.style.now.format c.args.style.now.elements.now (schema_of c.args.flat.now).comps)
    (schema_of c.args.flat.now) c.args.bindings.now c.write_lines.new.search c.requires.start c.in_ok-ending.ensures.same.0 c.in_ok-ending.ensures.same.1
    c.in_ok-ending.ensures.counts in
    let last = last_text (row_wording c.args.style.now.format c.args.style.now.elements.now (schema_of c.args.flat.now).comps) c.in_ok-ending.ending
    (unwrap_or c.write_lines.new.search.walk.stage.last []) in
    let is = c.in_ok-append_tests_line.ensures ∙ ap (λ (l : List ℕ). l ++ tests_line c.args.style.now.format c.tests.result)
    (c.in_ok-append_last.ensures ∙ ap (λ (l : List ℕ). l ++ last) c.new-line.ensures.items)
    ∙ ap (λ n. last ++ tests_line c.args.style.now.format n) c.tests.ensures.count in
    always_on_err _ (inr (
      _,
      _,
      all_text _ _ _ _ _ true _ _ _ _ _ _ c.in_ok-ending.ensures.ok c.append_tests_line.new.line.items refl number is,
      front_behind _ _ _ _ _ c.in_ok-ending.ensures.ok.written (rw c.deref.ensures.value at c.in_err-write_text.ensures.err),
    ))

pub returns-clause-ok : goal.returns-clause-ok
returns-clause-ok g c =
    let number = number_told (row_wording c.args.style.now.format c.args.style.now.elements.now (schema_of c.args.flat.now).comps)
    (schema_of c.args.flat.now) c.args.bindings.now c.write_lines.new.search c.requires.start c.in_ok-ending.ensures.same.0 c.in_ok-ending.ensures.same.1
    c.in_ok-ending.ensures.counts in
    let last = last_text (row_wording c.args.style.now.format c.args.style.now.elements.now (schema_of c.args.flat.now).comps) c.in_ok-ending.ending
    (unwrap_or c.write_lines.new.search.walk.stage.last []) in
    let is = c.in_ok-append_tests_line.ensures ∙ ap (λ (l : List ℕ). l ++ tests_line c.args.style.now.format c.tests.result)
    (c.in_ok-append_last.ensures ∙ ap (λ (l : List ℕ). l ++ last) c.new-line.ensures.items)
    ∙ ap (λ n. last ++ tests_line c.args.style.now.format n) c.tests.ensures.count in
    let whole = all_text _ _ _ _ _ true _ _ _ _ _ _ c.in_ok-ending.ensures.ok c.append_tests_line.new.line.items refl number is in
    (_, (rw (sym c.status.ensures) at whole), Appends-trans _ _ _ _ _ c.in_ok-ending.ensures.ok.written (rw c.deref.ensures.value at c.in_ok-write_text.ensures.ok))
