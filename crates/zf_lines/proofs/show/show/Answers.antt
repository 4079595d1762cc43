-- What is written is the lines, and then the end.
use Rattle.zf_lines.proofs.Prelude.{◌++◌, ◌∙◌, ap, inr, List, refl, sym, ℕ, Appends-trans, schema_of, last_text, row_wording}
use Rattle.zf_lines.proofs.Fronts.{always_on_err, front_behind, front_longer, front_whole}
use Rattle.zf_lines.proofs.Searching.{untold_text}
use Rattle.zf_lines.proofs.show.show.Goals as goal

pub returns-in_err-append_last-clause-err : goal.returns-in_err-append_last-clause-err
returns-in_err-append_last-clause-err g c =
    always_on_err _ (inr (
      _,
      _,
      untold_text _ _ _ _ _ _ _ _ _ _ c.in_ok-ending.ensures.ok _ (g.met.S.Search.given c.write_lines.new.search) refl,
      front_longer _ _ _ _ (front_whole _ _ _ c.in_ok-ending.ensures.ok.written),
    ))

pub returns-in_err-write_text-clause-err : goal.returns-in_err-write_text-clause-err
returns-in_err-write_text-clause-err g c =
    let is = c.in_ok-append_last.ensures ∙ ap (λ (l : List ℕ). l ++ last_text
    (row_wording c.args.style.now.format c.args.style.now.elements.now (schema_of c.args.flat.now).comps) c.in_ok-ending.ending
    (g.S.Row.values c.write_lines.new.search)) c.new-line.ensures.items in
    always_on_err _ (inr (
      _,
      _,
      untold_text _ _ _ _ _ _ _ _ _ _ c.in_ok-ending.ensures.ok c.append_last.new.line.items (g.met.S.Search.given c.write_lines.new.search) is,
      front_behind _ _ _ _ _ c.in_ok-ending.ensures.ok.written (rw c.deref.ensures.value at c.in_err-write_text.ensures.err),
    ))

pub returns-clause-ok : goal.returns-clause-ok
returns-clause-ok g c =
    let is = c.in_ok-append_last.ensures ∙ ap (λ (l : List ℕ). l ++ last_text
    (row_wording c.args.style.now.format c.args.style.now.elements.now (schema_of c.args.flat.now).comps) c.in_ok-ending.ending
    (g.S.Row.values c.write_lines.new.search)) c.new-line.ensures.items in
    let whole = untold_text _ _ _ _ _ _ _ _ _ _ c.in_ok-ending.ensures.ok c.append_last.new.line.items (g.met.S.Search.given c.write_lines.new.search) is in
    (_, (rw (sym c.status.ensures) at whole), Appends-trans _ _ _ _ _ c.in_ok-ending.ensures.ok.written (rw c.deref.ensures.value at c.in_ok-write_text.ensures.ok))
