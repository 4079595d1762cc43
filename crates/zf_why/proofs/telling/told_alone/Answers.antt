use Rattle.zf_why.proofs.Prelude.{◌+◌, ◌∙◌, ◌≡◌, ap, arith, List, map, refl, Some, subst, sym, ℕ, slice_get, comp_of, conjunct_of, environment_of, ResolvedTree, Global, Vec, length-map, split_at, IsTelling, nothing_beside, Told}
use Rattle.zf_why.proofs.Beginning.{one_begins}
use Rattle.zf_why.proofs.Gathered.{read_mapped}
use Rattle.zf_why.proofs.Lists.{read_at, seen_at, some_at}
use Rattle.zf_why.proofs.Tellings.{all_told, alone_ruled_out, AreToldUpTo, none_told, one_left, one_told, told_at}
use Rattle.zf_why.proofs.telling.told_alone.Goals.{then-chosen-place+in_ok-one+in_ok-push, else-chosen-place}
use Rattle.zf_why.proofs.telling.told_alone.Goals as goal

pub loop-place-init : goal.loop-place-init
loop-place-init c =
    let s = c.args.setting.now in
    let e = environment_of s.env.now in
    let cs = map comp_of s.components.now in
    let xs = c.args.conjuncts.now in
    let R = (λ (i : ℕ) (p : ResolvedTree) (t : Told). IsTelling e cs s.held.now s.details (nothing_beside i) (split_at xs i) p t) in
    subst (AreToldUpTo R (map conjunct_of xs) c.args.chosen.now 0) (sym c.new-told.ensures.items) (none_told R (map conjunct_of xs) c.args.chosen.now)

pub told_of-requires : goal.told_of-requires
told_of-requires c =
    let s = c.args.setting.now in
    let e = environment_of s.env.now in
    let cs = map comp_of s.components.now in
    let xs = c.args.conjuncts.now in
    let m = c.args.chosen.now in
    let i = c.loop-place.place in
    let x = c.index-conjuncts-place.result in
    let at = seen_at conjunct_of xs i x c.index-conjuncts-place.is c.loop-place-test.true in
    record {
      begins = one_begins e cs (map conjunct_of xs) i (conjunct_of x) at c.requires.begins;
      none = alone_ruled_out e cs s.held.now (map conjunct_of xs) m i (conjunct_of x) at
          (read_at m i _ _ (omega (arith, c.requires.alone.each, length-map xs conjunct_of, c.loop-place-test.true)) c.if-chosen-place.true) c.requires.alone;
    }

pub loop-place-preserved : goal.loop-place-preserved
loop-place-preserved c =
    let s = c.args.setting.now in
    let e = environment_of s.env.now in
    let cs = map comp_of s.components.now in
    let xs = c.args.conjuncts.now in
    let m = c.args.chosen.now in
    let i = c.loop-place.place in
    let old = c.loop-place.told.items in
    let R = (λ (i : ℕ) (p : ResolvedTree) (t : Told). IsTelling e cs s.held.now s.details (nothing_beside i) (split_at xs i) p t) in
    let goes = (λ (v w : List Told) (is : v ≡ w) (h : AreToldUpTo R (map conjunct_of xs) m (i + 1) w). subst (AreToldUpTo R (map conjunct_of xs) m (i + 1)) (sym is) h) in
    let seen = λ (v w : Vec Told Global) (is : v ≡ w). ap (λ (u : Vec Told Global). u.items) is in
    elim c.if-chosen-place.branch [
      | then-chosen-place+in_ok-one+in_ok-push w ↦
          let x = w.index-conjuncts-place.result in
          let at : slice_get xs i ≡ Some x = read_at xs i x x c.loop-place-test.true (sym w.index-conjuncts-place.is) in
          goes _ _ (seen _ _ w.told-is ∙ w.in_ok-push.ensures.items)
          (one_told R (map conjunct_of xs) m i (conjunct_of x) w.in_ok-one.one old (read_mapped conjunct_of xs i x at)
          (read_at m i _ _ (omega (arith, c.requires.alone.each, length-map xs conjunct_of, c.loop-place-test.true)) w.if-chosen-place.true)
          (told_at e cs s.held.now s.details xs i x (nothing_beside i) (nothing_beside i) w.in_ok-one.one at refl w.in_ok-one.ensures) c.loop-place.invariant)
      | else-chosen-place w ↦
          let x = some_at xs i c.loop-place-test.true in
          goes _ _ (seen _ _ w.told-is)
          (one_left R (map conjunct_of xs) m i (conjunct_of x.0) old (read_mapped conjunct_of xs i x.0 x.1)
          (read_at m i _ _ (omega (arith, c.requires.alone.each, length-map xs conjunct_of, c.loop-place-test.true)) w.if-chosen-place.false) c.loop-place.invariant)
    ]

pub returns : goal.returns
returns c =
    let s = c.args.setting.now in
    let xs = c.args.conjuncts.now in
    let R = (λ (i : ℕ) (p : ResolvedTree) (t : Told). IsTelling (environment_of s.env.now) (map comp_of s.components.now) s.held.now s.details (nothing_beside i) (split_at xs i) p t) in
    all_told R (map conjunct_of xs) c.args.chosen.now c.loop-place.place c.loop-place.told.items (omega (arith, length-map xs conjunct_of, c.loop-place-test.false)) c.loop-place.invariant
