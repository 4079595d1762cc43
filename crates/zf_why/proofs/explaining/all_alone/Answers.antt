use Rattle.zf_why.proofs.Prelude.{arith, map, not, subst, sym, Bool, List, take, ◌+◌, comp_of, conjunct_of, environment_of, AreAlone, HasRow, RuleOut, ◌∷◌, [], length-map}
use Rattle.zf_why.proofs.Beginning.{one_begins}
use Rattle.zf_why.proofs.Lists.{seen_at}
use Rattle.zf_why.proofs.Picking.{none_picked, one_picked, picked_all, turned}
use Rattle.zf_why.proofs.explaining.all_alone.Goals as goal

pub loop-place-init : goal.loop-place-init
loop-place-init c =
    let s = c.args.setting.now in
    let ps = map conjunct_of c.args.conjuncts.now in
    subst (λ (m : List Bool). AreAlone (environment_of s.env.now) (map comp_of s.components.now) s.held.now (take 0 ps) m) (sym c.in_ok-alone.ensures.items) (none_picked _ _ ps)

pub allows_alone-requires : goal.allows_alone-requires
allows_alone-requires c =
    let s = c.args.setting.now in
    let x = c.index-conjuncts-place.result in
    one_begins (environment_of s.env.now) (map comp_of s.components.now) (map conjunct_of c.args.conjuncts.now) c.loop-place.place (conjunct_of x)
    (seen_at conjunct_of c.args.conjuncts.now c.loop-place.place x c.index-conjuncts-place.is c.loop-place-test.true) c.requires

pub loop-place-preserved : goal.loop-place-preserved
loop-place-preserved c =
    let s = c.args.setting.now in
    let x = c.index-conjuncts-place.result in
    let cs = map comp_of s.components.now in
    let ps = map conjunct_of c.args.conjuncts.now in
    subst (λ (m : List Bool). AreAlone (environment_of s.env.now) cs s.held.now (take (c.loop-place.place + 1) ps) m) (sym c.in_ok-push.ensures.items)
    (one_picked _ _ ps c.loop-place.place (conjunct_of x) (not c.in_ok-allowed.allowed) c.loop-place.alone.items
    (seen_at conjunct_of c.args.conjuncts.now c.loop-place.place x c.index-conjuncts-place.is c.loop-place-test.true)
    (turned (RuleOut (environment_of s.env.now) cs s.held.now (conjunct_of x ∷ []))
    (HasRow (environment_of s.env.now) cs s.held.now (conjunct_of x ∷ [])) _ c.in_ok-allowed.ensures) c.loop-place.invariant)

pub returns : goal.returns
returns c = picked_all _ _ (map conjunct_of c.args.conjuncts.now) c.loop-place.place c.loop-place.alone.items
    (omega (arith, length-map c.args.conjuncts.now conjunct_of, c.loop-place-test.false)) c.loop-place.invariant
