use Rattle.zf_calculus.proofs.Prelude.{◌≡◌, drop, schema_of, constrained, equalities}
use Rattle.zf_calculus.proofs.growing.Growing.take_equalities.Given as goal

abbrev pub invariant-loop-place : goal.invariant-loop-place
invariant-loop-place l =
    constrained (schema_of l.self) (equalities l.span l.place (drop l.place l.places)) ≡ constrained (schema_of l.initial.self) (equalities l.span 0 l.places)
