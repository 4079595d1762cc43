use Rattle.zf_meaning.proofs.Prelude.{◌++◌, ◌+◌, ◌-◌, ◌∙◌, ◌∷◌, ◌≡◌, ap, arith, length, List, refl, subst, sym, ℕ, seen, Skips, ArePlaces, picked, rows_after}
use Rattle.std.specs.Vec.{with_items}
use Rattle.zf_meaning.proofs.NextRow.{ArePlaces-length, bound-anew, places-bound, written-over}
use Rattle.zf_meaning.proofs.rows.Rows.pass.Goals as goal

pub overflow_sub-outside : goal.overflow_sub-outside
overflow_sub-outside c = omega (arith, c.len.ensures, c.len-2.ensures, places-bound _ _ _ _ c.requires.1.0 c.requires.1.1, c.args.self.now.bound.ok, c.args.self.now.places.ok)

pub returns : goal.returns
returns c = λ outside at.
    let old = c.args.self.now.places.items in
    let lists = seen c.args.self.now.lists.items in
    let new = c.turn_on.new.places in
    let passing = c.args.passing in
    let here : ArePlaces lists new = subst (λ xs. ArePlaces (seen xs) new) c.deref.ensures.value c.turn_on.ensures.places in
    let items : (with_items c.args.self.now.places new).items ≡ new = written-over c.args.self.now.places.len new old
    (sym (ArePlaces-length lists new here) ∙ ArePlaces-length lists old at.0) c.args.self.now.places.ok.0 in
    let turned : Skips passing (picked lists old) (rows_after lists old) (picked lists new ∷ rows_after lists new) =
    subst (λ xs. Skips passing (picked xs old) (rows_after xs old) (picked xs new ∷ rows_after xs new)) (ap seen c.deref.ensures.value)
    (subst (λ ps. Skips passing (picked (seen c.deref.result.now) ps) (rows_after (seen c.deref.result.now) ps)
    (picked (seen c.deref.result.now) new ∷ rows_after (seen c.deref.result.now) new)) c.deref_mut.ensures.value c.in-Some.ensures.turned) in
    let count : (c.len.result - c.len-2.result) + length old ≡ length c.args.self.now.bound.items =
    omega (arith, c.len.ensures, c.len-2.ensures, places-bound _ _ _ _ at.0 at.1, c.args.self.now.bound.ok, c.args.self.now.places.ok) in
    let bound = bound-anew lists old new c.args.self.now.bound.items c.truncate.new.self.items c.bind.new.bound.items outside _ at.0 at.1 count c.truncate.ensures.items
    (c.in_ok-bind.ensures ∙ ap (λ xs. seen c.truncate.new.self.items ++ picked (seen xs) c.deref-3.result.now) c.deref-2.ensures.value
    ∙ ap (λ ps. seen c.truncate.new.self.items ++ picked lists ps) (c.deref-3.ensures.value ∙ items)) in
    let P : List ℕ → Type 0 = λ ps. (ArePlaces lists ps × (seen c.bind.new.bound.items ≡ outside ++ picked lists ps)) × (lists ≡ lists)
    × Skips passing (picked lists old) (rows_after lists old) (picked lists ps ∷ rows_after lists ps) in
    subst P (sym items) ((here, bound), refl, turned)
