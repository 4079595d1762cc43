use Rattle.zf_meaning.proofs.Prelude.{◌+◌, ◌<◌, ◌≡◌, [], ap, arith, get_or, length, set, subst, suc, sym, take, take_all, AreOthers, Others, picked, rows_after, seen, Skips}
use Rattle.zf_meaning.proofs.NextRow.{ArePlaces-at, ArePlaces-length, ArePlaces-set, seen-length, seen-at}
use Rattle.zf_meaning.proofs.PassedRows.{others-skips, skip-nothing}
use Rattle.zf_meaning.proofs.rows.go_on_at.Goals as goal

pub returns-then-place-places-clause-skips : goal.returns-then-place-places-clause-skips
returns-then-place-places-clause-skips c =
    let lists = seen c.args.lists.now in
    skip-nothing _ _ _ _ (ap (rows_after lists) (sym (take_all c.args.place c.args.places.now c.if-place-places.true)))

pub bounds-lists-place : goal.bounds-lists-place
bounds-lists-place c = omega (arith, ArePlaces-length _ _ c.requires, seen-length c.args.lists.now, c.if-place-places.false)

pub before_wanted-requires : goal.before_wanted-requires
before_wanted-requires c =
    let l : c.args.place < length c.args.lists.now = omega (arith, ArePlaces-length _ _ c.requires, seen-length c.args.lists.now, c.if-place-places.false) in
    let e = seen-at c.args.lists.now c.args.place c.index-lists-place.result [] l c.index-lists-place.is in
    let at = ArePlaces-at _ c.args.places.now c.args.place [] c.requires (omega (arith, c.if-place-places.false)) in
    omega (arith, at, ap length e)

pub returns-clause-places : goal.returns-clause-places
returns-clause-places c =
    let l : c.args.place < length c.args.lists.now = omega (arith, ArePlaces-length _ _ c.requires, seen-length c.args.lists.now, c.if-place-places.false) in
    let e = seen-at c.args.lists.now c.args.place c.index-lists-place.result [] l c.index-lists-place.is in
    ArePlaces-set _ c.args.places.now c.args.place _ [] c.requires (omega (arith, c.before_wanted.ensures.place, ap length e))

pub returns-clause-skips : goal.returns-clause-skips
returns-clause-skips c =
    let lists = seen c.args.lists.now in
    let places = c.args.places.now in
    let place = c.args.place in
    let wanted = c.args.wanted.now in
    let to = c.before_wanted.result in
    let l : c.args.place < length c.args.lists.now = omega (arith, ArePlaces-length _ _ c.requires, seen-length c.args.lists.now, c.if-place-places.false) in
    let e = seen-at c.args.lists.now c.args.place c.index-lists-place.result [] l c.index-lists-place.is in
    let next : suc c.args.place ≡ c.args.place + 1 = omega arith in
    subst (λ n. Skips (Others place wanted) (picked lists places) (rows_after lists places) (rows_after lists (take n (set places place to)))) next
    (others-skips lists places place to wanted [] c.requires c.if-place-places.false c.before_wanted.ensures.from
    (omega (arith, c.before_wanted.ensures.place, ap length e)) (subst (λ xs. AreOthers xs (get_or places place 0) to wanted)
    (sym e) c.before_wanted.ensures.others))
