use Rattle.zf_enum.proofs.Prelude.{◌++◌, ◌+◌, ◌<◌, ◌∙◌, ◌∷◌, ◌≡◌, [], ap, arith, get_or, length, length-append, List, refl, subst, sym, true, ℕ, range-is, AreWithin, picked, resolved_of, environment_of, AreCandidates, uses}
use Rattle.zf_enum.proofs.Trying.{stays_on, within_push, as_before, one_tried, all_tried}
use Rattle.zf_enum.proofs.candidates.+gather_ahead.Goals as goal

pub loop-place-init : goal.loop-place-init
loop-place-init t c = record { same = refl; stay = λ i m. m; tried = λ j l. absurd (omega (arith, l)) }

pub loop-place-preserved : goal.loop-place-preserved
loop-place-preserved t c =
    let places = c.args.places.now.items in
    let p = c.loop-place.place in
    let inv = c.loop-place.invariant in
    let ranges = c.args.ranges.now in
    let side = resolved_of c.args.side.now in
    let e = environment_of c.args.env.now in
    let range = get_or c.args.ranges.now c.args.next [] in
    let xs = c.loop-place.gathered.items in
    let ys = c.gather_ahead.new.gathered.items in
    let long : c.len-component.result ≡ length c.args.places.now.items = omega (arith, c.len-component.ensures, c.args.places.now.ok.0) in
    let pushed : c.push.new.self.items ≡ c.args.places.now.items ++ c.loop-place.place ∷ [] = c.in_ok-push.ensures.items ∙ ap (λ (ps : List ℕ). ps ++ c.loop-place.place ∷ []) inv.same in record {
      same = as_before places c.push.new.self.items c.gather_ahead.new.places.items c.truncate.new.self.items p c.len-component.result pushed c.in_ok-found.ensures.same c.truncate.ensures.items long;
      stay = stays_on c.args.gathered.now.items xs ys inv.stay c.gather_ahead.ensures.stay;
      tried = one_tried c.args.tie e side ranges range places p xs ys c.gather_ahead.ensures.stay inv.tried
          (subst (λ (ps : List ℕ). AreCandidates c.args.tie e side ranges (picked ranges ps) range ys) pushed (c.in_ok-found.ensures.candidates c.if-not-found.false));
    }

pub gather_ahead-requires : goal.gather_ahead-requires
gather_ahead-requires t c =
    let places = c.args.places.now.items in
    let p = c.loop-place.place in
    let ranges = c.args.ranges.now in
    let v = c.range.inside.values in
    let long : c.len-component.result ≡ length c.args.places.now.items = omega (arith, c.len-component.ensures, c.args.places.now.ok.0) in
    let near : c.len-component.result < length c.args.ranges.now = omega (arith, c.if-due-component.false, c.requires.few) in
    let column = range-is c.args.ranges.now c.len-component.result c.index-ranges-component.result near c.index-ranges-component.is in
    let count : c.len.result ≡ length (get_or c.args.ranges.now c.len-component.result []) = omega (arith, c.len.ensures, v.ok.0, ap length c.range.view_is, ap length column) in
    let there : p < length (get_or c.args.ranges.now c.len-component.result []) = omega (arith, count, c.loop-place-test.true, c.tried-end.ensures.within) in
    let pushed : c.push.new.self.items ≡ c.args.places.now.items ++ c.loop-place.place ∷ [] = c.in_ok-push.ensures.items
    ∙ ap (λ (ps : List ℕ). ps ++ c.loop-place.place ∷ []) c.loop-place.invariant.same in
    let longer : length c.push.new.self.items ≡ length c.args.places.now.items + 1 = ap length pushed ∙ length-append places (p ∷ []) in (
      omega (arith, c.decreases, longer, long, c.if-due-component.false),
      (
        c.requires.due,
        (
          c.requires.few,
          (
            c.requires.next,
            (
              c.requires.ascending,
              subst (λ (ps : List ℕ). AreWithin ranges ps) (sym pushed)
                  (within_push ranges places p c.requires.within (omega (arith, long, near)) (subst (λ (n : ℕ). p < length (get_or c.args.ranges.now n [])) long there)),
            ),
          ),
        ),
      ),
    )

pub returns-in_err-found-clause-stay : goal.returns-in_err-found-clause-stay
returns-in_err-found-clause-stay t c = stays_on c.args.gathered.now.items c.loop-place.gathered.items c.gather_ahead.new.gathered.items c.loop-place.invariant.stay c.gather_ahead.ensures.stay

pub returns-then-not-found-clause-stay : goal.returns-then-not-found-clause-stay
returns-then-not-found-clause-stay t c = stays_on c.args.gathered.now.items c.loop-place.gathered.items c.gather_ahead.new.gathered.items c.loop-place.invariant.stay c.gather_ahead.ensures.stay

pub returns-clause-candidates : goal.returns-clause-candidates
returns-clause-candidates t c = λ found.
    let places = c.args.places.now.items in
    let ranges = c.args.ranges.now in
    let side = resolved_of c.args.side.now in
    let v = c.range.inside.values in
    let long : c.len-component.result ≡ length c.args.places.now.items = omega (arith, c.len-component.ensures, c.args.places.now.ok.0) in
    let near : c.len-component.result < length c.args.ranges.now = omega (arith, c.if-due-component.false, c.requires.few) in
    let column = range-is c.args.ranges.now c.len-component.result c.index-ranges-component.result near c.index-ranges-component.is in
    let first : c.len.result ≡ length (get_or c.args.ranges.now c.len-component.result []) = omega (arith, c.len.ensures, v.ok.0, ap length c.range.view_is, ap length column) in
    let count : c.len.result ≡ length (get_or c.args.ranges.now (length c.args.places.now.items) []) = first ∙ ap (λ (n : ℕ). length (get_or c.args.ranges.now n [])) long in
    all_tried c.args.tie (environment_of c.args.env.now) side ranges (get_or c.args.ranges.now c.args.next []) places c.loop-place.gathered.items
    c.tried-end.result c.requires.within (omega (arith, long, near))
    (λ u. c.tried-end.ensures.all (subst (λ (n : ℕ). uses side n ≡ true) (sym long) u) ∙ count) (λ h. c.tried-end.ensures.some (omega (arith, h, count)))
    (λ j l. c.loop-place.invariant.tried j (omega (arith, l, c.loop-place-test.false)))
