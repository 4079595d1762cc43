use Rattle.zf_plan.proofs.Prelude.{◌<◌, arith, length, subst, sym, trees_of, IsBare, IsLayer}
use Rattle.zf_plan.proofs.problem.Problem.layer.Goals as goal

pub returns : goal.returns
returns g c =
    let self = c.args.self.now in
    let plan = c.requires.sound.plan in
    let n = c.args.number in
    let layer = c.index.result.now in
    let inside : n < length self.plan.now.layers.items = omega (arith, plan.all, c.requires.few) in
    record {
      layer = subst (IsLayer (g.J.Judge.conjuncts self.judge.now) (g.J.Judge.is_used self.judge.now) (trees_of self.forest.now) n) (sym c.index.ensures) (plan.each n layer inside);
      bare = λ plain. subst IsBare (sym c.index.ensures) (plan.bare plain n layer inside);
    }
