use Rattle.zf_why.proofs.Prelude.{List, map, subst, sym, AllByRecursion, comp_of, conjunct_of, environment_of, IfOk-weaker}
use Rattle.zf_why.specs.{AreEach, CanTell, IsSide, side_in, split_of}
use Rattle.zf_why.specs.declared.sides.Disjunct.{Disjunct}
use Rattle.zf_why.proofs.Splitting.{sides_can, sides_said}
use Rattle.zf_why.proofs.telling.sides_told.Goals as goal

pub each_told-requires : goal.each_told-requires
each_told-requires c =
    let s = c.args.setting.now in
    let e = environment_of s.env.now in
    let cs = map comp_of s.components.now in
    let given = map conjunct_of c.args.given.now in
    subst (λ (ds : List Disjunct). AllByRecursion (CanTell e cs s.held.now given) (map side_in ds)) (sym c.as_slice.ensures)
    (sides_can e cs s.held.now given (split_of c.args.conjunct.now) (conjunct_of c.args.conjunct.now) (map side_in c.in_ok-disjuncts.disjuncts)
    c.in_ok-disjuncts.ensures c.requires.begins c.requires.none)

pub returns : goal.returns
returns c =
    let s = c.args.setting.now in
    let S = IsSide (environment_of s.env.now) (map comp_of s.components.now) s.held.now (map conjunct_of c.args.given.now) in
    IfOk-weaker c.each_told.result _ _ (λ sides each.
    sides_said S (split_of c.args.conjunct.now) (conjunct_of c.args.conjunct.now) (map side_in c.in_ok-disjuncts.disjuncts) sides.items c.in_ok-disjuncts.ensures
    (subst (λ (ds : List Disjunct). AreEach S (map side_in ds) sides.items) c.as_slice.ensures each)) c.each_told.ensures
