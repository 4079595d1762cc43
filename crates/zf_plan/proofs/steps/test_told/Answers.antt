use Rattle.zf_plan.proofs.Prelude.{◌∙◌, length, subst, sym, picked, trees_of, AreTouched}
use Rattle.zf_plan.proofs.SoFar.{so-told, touched-each}
use Rattle.zf_plan.proofs.Stepping.{finds-ok, finds-unreached, setting-of}
use Rattle.zf_plan.proofs.steps.test_told.Goals as goal

pub returns-then-not-is_reached-clause-finds : goal.returns-then-not-is_reached-clause-finds
returns-then-not-is_reached-clause-finds g c =
    let given = setting-of g.met.V.Ord.total (g.met.J.Judge.one_truth c.args.problem.now.judge.now) (g.met.J.Judge.kept c.args.problem.now.judge.now) c.requires.asked.sound in
    finds-unreached given (picked c.args.problem.now.ranges.now c.args.places.now) (sym c.is_reached.ensures ∙ c.if-not-is_reached.true)

pub test_trees-requires : goal.test_trees-requires
test_trees-requires g c =
    let l = g.J.Judge.conjuncts c.args.problem.now.judge.now in
    let trees = trees_of c.args.problem.now.forest.now in
    let k = length c.args.places.now in
    let touched = subst (AreTouched l trees k (length trees)) (sym c.deref.ensures.value) c.layer-layer.ensures.layer.touched in
    record {
      asked = c.requires.asked;
      conjuncts = touched.below;
      touched = touched-each l trees k c.deref.result.now touched;
      before = c.requires.before;
      so_far = so-told l trees k (picked c.args.problem.now.ranges.now c.args.places.now) c.args.before c.requires.so_far c.requires.told;
    }

pub returns-clause-finds : goal.returns-clause-finds
returns-clause-finds g c =
    let l = g.J.Judge.conjuncts c.args.problem.now.judge.now in
    let trees = trees_of c.args.problem.now.forest.now in
    let k = length c.args.places.now in
    let touched = subst (AreTouched l trees k (length trees)) (sym c.deref.ensures.value) c.layer-layer.ensures.layer.touched in
    let given = setting-of g.met.V.Ord.total (g.met.J.Judge.one_truth c.args.problem.now.judge.now) (g.met.J.Judge.kept c.args.problem.now.judge.now) c.requires.asked.sound in
    finds-ok given c.args.places.now c.deref.result.now c.test_trees.result c.requires.asked.within (sym c.is_reached.ensures ∙ c.if-not-is_reached.false) touched c.test_trees.ensures.so_far
