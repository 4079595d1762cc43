use Rattle.zf_typing.proofs.Prelude.{◌≡◌, tree_of, resolved_of, IfOk-weaker, IsJudged, resolved, Meets, sort_of, scope_of, IsOf}
use Rattle.zf_typing.proofs.Judging.{opened}
use Rattle.zf_typing.proofs.judge.judge.Goals as goal

pub returns : goal.returns
returns c =
    let s = scope_of c.args.scope.now in
    let n = c.args.need in
    let e = tree_of c.args.term.now in
    let r = c.judge_term.result in
    let judged = opened s n e r c.judge_term.ensures.judged in
    record {
      sort = IfOk-weaker r (IsJudged s n e) (λ j. IsOf s e (sort_of j.sort)) (λ j h. h.is_of) judged.0;
      met = IfOk-weaker r (IsJudged s n e) (λ j. Meets n (sort_of j.sort)) (λ j h. h.met) judged.0;
      term = IfOk-weaker r (IsJudged s n e) (λ j. resolved_of j.term ≡ resolved s e) (λ j h. h.term) judged.0;
      wrong = judged.1;
      scope = c.judge_term.ensures.scope;
    }
