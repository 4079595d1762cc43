use Rattle.zf_calculus.proofs.Prelude.{◌∙◌, [], ◌∷◌, ◌++◌, ap, map, map-append, conjunct_of, ResolvedTree}
use Rattle.zf_calculus.proofs.growing.push_moved.Goals as goal

pub returns : goal.returns
returns c =
    ap (map conjunct_of) c.in_ok-push.ensures.ok ∙ map-append conjunct_of c.args.conjuncts.now (c.in_ok-moved.field-0 ∷ [])
    ∙ ap (λ (t : ResolvedTree). map conjunct_of c.args.conjuncts.now ++ t ∷ []) c.in_ok-moved.ensures
