use Rattle.zf_meaning.proofs.Prelude.{◌∙◌, ap, subst, sym, take, Others, Skips, picked, rows_after, seen}
use Rattle.zf_meaning.proofs.PassedRows.{front-skips}
use Rattle.zf_meaning.proofs.rows.go_on.Goals as goal

pub returns-in-Front-clause-skips : goal.returns-in-Front-clause-skips
returns-in-Front-clause-skips c =
    let lists = seen c.args.lists.now in
    let places = c.args.places.now in
    subst (λ p. Skips p (picked lists places) (rows_after lists places) (rows_after lists (take c.in-Front.front places))) (sym c.in-Front.is) (front-skips lists places c.in-Front.front c.requires)

pub returns-in-Others-clause-skips : goal.returns-in-Others-clause-skips
returns-in-Others-clause-skips c =
    let lists = seen c.args.lists.now in
    let places = c.args.places.now in
    subst (λ p. Skips p (picked lists places) (rows_after lists places) (rows_after lists (take c.go_on_at.result c.go_on_at.new.places)))
    (ap (Others c.in-Others.place) c.get.ensures ∙ sym c.in-Others.is) c.go_on_at.ensures.skips
