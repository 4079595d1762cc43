use Rattle.zf_why.proofs.Prelude.{◌++◌, [], List, map, refl, subst, sym, comp_of, conjunct_of, environment_of, CanBegin, Conjunct, RuleOut, take_all}
use Rattle.zf_why.specs.{AreBlamed, AreEach, CanTell, IsSide, side_in}
use Rattle.zf_why.specs.declared.sides.Disjunct.{Disjunct}
use Rattle.zf_why.specs.declared.told.Side.{Side}
use Rattle.zf_why.proofs.Lists.{all_at, seen_at}
use Rattle.zf_why.proofs.Splitting.{one_each}
use Rattle.zf_why.proofs.telling.each_told.Goals as goal

pub loop-disjunct-init : goal.loop-disjunct-init
loop-disjunct-init c =
    let s = c.args.setting.now in
    subst (AreEach (IsSide (environment_of s.env.now) (map comp_of s.components.now) s.held.now (map conjunct_of c.args.given.now)) []) (sym c.in_ok-sides.ensures.items) tt

pub blamed-requires : goal.blamed-requires
blamed-requires c =
    let s = c.args.setting.now in
    let e = environment_of s.env.now in
    let cs = map comp_of s.components.now in
    let given = map conjunct_of c.args.given.now in
    let d = c.disjunct-item.result in
    let can = all_at (CanTell e cs s.held.now given) (map side_in c.args.disjuncts.now) c.loop-disjunct.disjunct-index (side_in d)
    (seen_at side_in c.args.disjuncts.now c.loop-disjunct.disjunct-index d c.disjunct-item.is c.loop-disjunct-test.true) c.requires in
    record {
      begins = subst (λ (xs : List Conjunct). CanBegin e cs (given ++ map conjunct_of xs)) (sym c.as_slice.ensures) can.0;
      none = subst (λ (xs : List Conjunct). RuleOut e cs s.held.now (given ++ map conjunct_of xs)) (sym c.as_slice.ensures) can.1;
    }

pub loop-disjunct-preserved : goal.loop-disjunct-preserved
loop-disjunct-preserved c =
    let s = c.args.setting.now in
    let e = environment_of s.env.now in
    let cs = map comp_of s.components.now in
    let given = map conjunct_of c.args.given.now in
    let d = c.disjunct-item.result in
    let blamed = c.in_ok-blamed.blamed in
    let side : Side = record { span = d.span; blamed = blamed } in
    one_each (IsSide e cs s.held.now given) c.args.disjuncts.now c.loop-disjunct.disjunct-index d c.loop-disjunct.sides.items _ side c.disjunct-item.is c.loop-disjunct-test.true
    c.in_ok-push.ensures.items
    (record { span = refl; blamed = subst (λ (xs : List Conjunct). AreBlamed e cs s.held.now given (map conjunct_of xs) blamed.items) c.as_slice.ensures c.in_ok-blamed.ensures })
    c.loop-disjunct.invariant

pub returns : goal.returns
returns c =
    let s = c.args.setting.now in
    subst (λ (ds : List Disjunct). AreEach (IsSide (environment_of s.env.now) (map comp_of s.components.now) s.held.now (map conjunct_of c.args.given.now)) (map side_in ds) c.loop-disjunct.sides.items)
    (take_all c.loop-disjunct.disjunct-index c.args.disjuncts.now c.loop-disjunct-test.false) c.loop-disjunct.invariant
