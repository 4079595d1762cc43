use Rattle.zf_why.proofs.Prelude.{◌++◌, ◌+◌, ◌∙◌, ◌∷◌, ◌≡◌, [], ap, arith, drop, List, map, Some, subst, sym, slice_get, conjunct_of, chosen_of, Global, Vec, length-map, goes_in, none_further, stays_out}
use Rattle.zf_why.specs.{part_of}
use Rattle.zf_why.specs.declared.part.Part.{Part}
use Rattle.zf_why.proofs.Lists.{read_at, some_at}
use Rattle.zf_why.proofs.Gathered.{part_at, parts_chosen, parts_of}
use Rattle.zf_why.proofs.telling.chosen_parts.Goals.{then-chosen-place+in_ok-part+in_ok-push, else-chosen-place}
use Rattle.zf_why.proofs.telling.chosen_parts.Goals as goal

pub loop-place-init : goal.loop-place-init
loop-place-init c = ap (λ (ns : List Part). ns ++ chosen_of (parts_of c.args.conjuncts.now) c.args.chosen.now) (sym c.new-parts.ensures.items)

pub loop-place-preserved : goal.loop-place-preserved
loop-place-preserved c =
    let xs = c.args.conjuncts.now in
    let m = c.args.chosen.now in
    let i = c.loop-place.place in
    let whole = chosen_of (parts_of xs) m in
    let old = c.loop-place.parts.items in
    let seen = λ (v w : Vec Part Global) (is : v ≡ w). ap (λ (u : Vec Part Global). u.items) is in
    let goes = (λ (v w : List Part) (is : v ≡ w) (h : whole ≡ w ++ chosen_of (drop (i + 1) (parts_of xs)) (drop (i + 1) m)). subst
    (λ (u : List Part). whole ≡ u ++ chosen_of (drop (i + 1) (parts_of xs)) (drop (i + 1) m)) (sym is) h) in
    elim c.if-chosen-place.branch [
      | then-chosen-place+in_ok-part+in_ok-push w ↦
          let x = w.index-conjuncts-place.result in
          let there : slice_get xs i ≡ Some x = read_at xs i x x c.loop-place-test.true (sym w.index-conjuncts-place.is) in
          goes _ _ (seen _ _ w.parts-is ∙ w.in_ok-push.ensures.items ∙ ap (λ (part : Part). old ++ part ∷ []) w.in_ok-part.ensures)
          (goes_in whole old (parts_of xs) m i (part_of (conjunct_of x)) (part_at xs i x there)
          (read_at m i _ _ (omega (arith, c.requires, c.loop-place-test.true)) w.if-chosen-place.true) c.loop-place.invariant)
      | else-chosen-place w ↦
          let x = some_at xs i c.loop-place-test.true in
          goes _ _ (seen _ _ w.parts-is)
          (stays_out whole old (parts_of xs) m i (part_of (conjunct_of x.0)) (part_at xs i x.0 x.1)
          (read_at m i _ _ (omega (arith, c.requires, c.loop-place-test.true)) w.if-chosen-place.false) c.loop-place.invariant)
    ]

pub returns : goal.returns
returns c =
    let xs = c.args.conjuncts.now in
    sym (c.loop-place.invariant ∙ none_further c.loop-place.parts.items (parts_of xs) c.args.chosen.now c.loop-place.place
    (omega (arith, length-map xs conjunct_of, length-map (map conjunct_of xs) part_of, c.loop-place-test.false))) ∙ parts_chosen xs c.args.chosen.now
