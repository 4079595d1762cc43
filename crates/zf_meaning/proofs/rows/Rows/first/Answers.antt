use Rattle.zf_meaning.proofs.Prelude.{◌++◌, ◌∙◌, ◌≡◌, ap, eqb, false, length, refl, rules, sym, list_any, seen, picked}
use Rattle.zf_meaning.proofs.NextRow.{all_rows-none, bound-first, first-places, first-here}
use Rattle.zf_meaning.proofs.rows.Rows.first.Goals as goal

pub returns-then-has_empty : goal.returns-then-has_empty
returns-then-has_empty c = all_rows-none (seen c.args.lists.items) (sym (ap (λ xs. list_any (λ ys. eqb (length ys) 0) (seen xs)) c.deref.ensures.value) ∙ sym c.has_empty.ensures ∙ c.if-has_empty.true)

pub bind-requires : goal.bind-requires
bind-requires c =
    first-places c.args.lists.items c.deref-2.result.now c.deref-3.result.now c.len.result c.deref-2.ensures.value
    (c.deref-3.ensures.value ∙ c.in_ok-places.ensures.items_if_clones_equal (λ y e. e)) (search rules)
    (sym (ap (λ xs. list_any (λ ys. eqb (length ys) 0) (seen xs)) c.deref.ensures.value) ∙ sym c.has_empty.ensures ∙ c.if-has_empty.false)

pub returns : goal.returns
returns c =
    let lists = c.args.lists.items in
    let places = c.in_ok-places.ensures.items_if_clones_equal (λ y e. e) in
    let none : list_any (λ ys. eqb (length ys) 0) (seen lists) ≡ false = sym (ap (λ xs. list_any (λ ys. eqb (length ys) 0) (seen xs)) c.deref.ensures.value)
    ∙ sym c.has_empty.ensures ∙ c.if-has_empty.false in
    let l : c.len.result ≡ length lists = search rules in
    let b : seen c.bind.new.bound.items ≡ seen c.args.outside.now ++ picked
    (seen lists) c.in_ok-places.places.items = bound-first lists c.deref-2.result.now c.in_ok-places.places.items c.deref-3.result.now c.args.outside.now
    c.in_ok-bound.bound.items c.bind.new.bound.items c.deref-2.ensures.value c.deref-3.ensures.value c.in_ok-bound.ensures.items c.in_ok-bind.ensures in
    ((first-places lists lists c.in_ok-places.places.items c.len.result refl places l none, b), refl, first-here lists c.in_ok-places.places.items c.len.result places l none)
