use Rattle.zf_calculus.proofs.Prelude.{ap, List, map, Comp, conjunct_of, schema_of}
use Rattle.zf_calculus.specs.Calculus as calculus
use Rattle.zf_calculus.proofs.Decorating.{left_decorated, unstroked}
use Rattle.zf_calculus.proofs.marking.decorate_own.Goals as goal

pub returns-then-is_empty : goal.returns-then-is_empty
returns-then-is_empty c = unstroked c.args.strokes.now c.is_empty.result (schema_of c.args.growing) c.if-is_empty.true c.is_empty.ensures

pub invariant_of-result : goal.invariant_of-result
invariant_of-result c =
    left_decorated c.args.strokes.now _ _ _ _ c.growing.invariant
    (ap (λ (cs : List Comp). calculus.schema_with cs (map conjunct_of c.growing.inside.flat.conjuncts)) c.in_ok-add_strokes.ensures)

pub returns : goal.returns
returns c =
    rw (← c.growing.view_is) (ap (λ (cs : List Comp). calculus.schema_with cs (map conjunct_of c.growing.inside.flat.conjuncts)) c.in_ok-add_strokes.ensures)
