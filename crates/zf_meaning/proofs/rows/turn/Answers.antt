use Rattle.zf_meaning.proofs.Prelude.{◌-◌, ◌<◌, ◌≡◌, [], ap, arith, inl, inr, length, refl, ⊎_elim, seen}
use Rattle.zf_meaning.proofs.NextRow.{ArePlaces-at, ArePlaces-set, ArePlaces-length, seen-length, seen-at, turns-begun, turned-here, turns-past, zeros-here, none-here, none-behind}
use Rattle.zf_meaning.proofs.rows.turn.Goals as goal

pub loop-i-init : goal.loop-i-init
loop-i-init c = record {
  places = c.requires;
  turns = turns-begun (seen c.args.lists.now) c.args.places.now c.args.front
      (length c.args.places.now) refl;
  zeros = none-behind (λ place. place ≡ 0) c.args.places.now;
}

pub bounds-lists-i : goal.bounds-lists-i
bounds-lists-i c = omega (arith, ArePlaces-length _ _ c.loop-i.invariant.places, seen-length c.args.lists.now)

pub next_before-requires : goal.next_before-requires
next_before-requires c =
    let j = c.loop-i.i - 1 in
    let l : c.loop-i.i - 1 < length c.args.lists.now = omega (arith, ArePlaces-length _ _ c.loop-i.invariant.places, seen-length c.args.lists.now) in
    let e = seen-at c.args.lists.now j c.index-lists-i.result [] l c.index-lists-i.is in
    let at = ArePlaces-at _ c.loop-i.places j [] c.loop-i.invariant.places (omega arith) in
    omega (arith, at, ap length e)

pub returns-in-Some-clause-places : goal.returns-in-Some-clause-places
returns-in-Some-clause-places c =
    let l : c.loop-i.i - 1 < length c.args.lists.now = omega (arith, ArePlaces-length _ _ c.loop-i.invariant.places, seen-length c.args.lists.now) in
    let e = seen-at c.args.lists.now (c.loop-i.i - 1) c.index-lists-i.result [] l c.index-lists-i.is in
    ArePlaces-set _ c.loop-i.places (c.loop-i.i - 1) _ [] c.loop-i.invariant.places (omega (arith, c.in-Some.ensures.2, ap length e))

pub returns-in-Some-clause-turned : goal.returns-in-Some-clause-turned
returns-in-Some-clause-turned c =
    let l : c.loop-i.i - 1 < length c.args.lists.now = omega (arith, ArePlaces-length _ _ c.loop-i.invariant.places, seen-length c.args.lists.now) in
    let e = seen-at c.args.lists.now (c.loop-i.i - 1) c.index-lists-i.result [] l c.index-lists-i.is in
    turned-here _ c.args.places.now c.loop-i.places c.args.front c.loop-i.i (c.loop-i.i - 1) _ [] c.loop-i.invariant.places (omega arith)
    (omega arith) c.loop-i.invariant.turns c.loop-i.invariant.zeros c.in-Some.ensures.0 c.in-Some.ensures.1
    (omega (arith, c.in-Some.ensures.2, ap length e))

pub loop-i-preserved : goal.loop-i-preserved
loop-i-preserved c =
    let i = c.loop-i.i in
    let j = c.loop-i.i - 1 in
    let l : c.loop-i.i - 1 < length c.args.lists.now = omega (arith, ArePlaces-length _ _ c.loop-i.invariant.places, seen-length c.args.lists.now) in
    let e = seen-at c.args.lists.now j c.index-lists-i.result [] l c.index-lists-i.is in
    let at = ArePlaces-at _ c.loop-i.places j [] c.loop-i.invariant.places (omega arith) in
    record {
      places = ArePlaces-set _ c.loop-i.places j 0 [] c.loop-i.invariant.places (omega (arith, at));
      turns = turns-past _ c.args.places.now c.loop-i.places c.args.front i j [] c.loop-i.invariant.places (omega arith) (omega arith) c.loop-i.invariant.turns
          (⊎_elim (λ f. inl f) (λ le. inr (omega (arith, le, ap length e))) c.in_default.ensures);
      zeros = zeros-here c.loop-i.places i j (omega arith) (omega arith) c.loop-i.invariant.zeros;
    }

pub returns-clause-turned : goal.returns-clause-turned
returns-clause-turned c = none-here _ c.args.places.now c.loop-i.places c.args.front c.loop-i.i c.loop-i-test.false c.loop-i.invariant.turns
