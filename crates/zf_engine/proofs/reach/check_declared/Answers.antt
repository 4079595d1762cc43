use Rattle.zf_engine.proofs.Prelude.{IfErr, List, map, Result, subst, sym, comp_of, environment_of, IfAnswered, schema_of, Stop, TellsOut, AllByRecursion, IsTrue, OnOk, one_bounds, IsNoneOut, RefusesStart, sets_of}
use Rattle.zf_term.specs.declared.schema.Component.{Component}
use Rattle.zf_engine.proofs.reach.check_declared.Goals.{in-Err, in-Ok}
use Rattle.zf_engine.proofs.reach.check_declared.Goals as goal

pub ranges-requires : goal.ranges-requires
ranges-requires c =
    let e = environment_of c.args.env.now in
    subst (λ (ds : List Component). AllByRecursion (λ x. IsTrue (one_bounds e.numbers e.globals (sets_of x.sets))) (map comp_of ds)) (sym c.as_slice.ensures) c.requires.bounded

pub not_begun-requires : goal.not_begun-requires
not_begun-requires c =
    let e = environment_of c.args.env.now in
    (e, subst (λ (ds : List Component). RefusesStart e (map comp_of ds) c.in-Err.fault) c.as_slice.ensures c.in-Err.ensures.refused)

pub returns-clause-ok : goal.returns-clause-ok
returns-clause-ok c =
    let e = environment_of c.args.env.now in
    let comps = map comp_of c.args.schema.now.components in
    elim c.match-ranges.branch [
      | in-Ok w ↦ subst (λ (r : Result (Unit {0}) Stop). OnOk r (IsNoneOut e comps)) (sym w.result-is)
          (subst (λ (ds : List Component). IsNoneOut e (map comp_of ds)) c.as_slice.ensures w.in-Ok.ensures.is.1)
      | in-Err w ↦ subst (λ (r : Result (Unit {0}) Stop). OnOk r (IsNoneOut e comps)) (sym w.result-is) tt
    ]

pub returns-clause-stop : goal.returns-clause-stop
returns-clause-stop c =
    let e = environment_of c.args.env.now in
    let a = schema_of c.args.schema.now in
    elim c.match-ranges.branch [
      | in-Ok w ↦ subst (λ (r : Result (Unit {0}) Stop). IfErr r (λ s. IfAnswered s (TellsOut e a.comps))) (sym w.result-is) tt
      | in-Err w ↦ subst (λ (r : Result (Unit {0}) Stop). IfErr r (λ s. IfAnswered s (TellsOut e a.comps))) (sym w.result-is)
          (w.not_begun.ensures e (subst (λ (ds : List Component). RefusesStart e (map comp_of ds) w.in-Err.fault) c.as_slice.ensures w.in-Err.ensures.refused))
    ]
