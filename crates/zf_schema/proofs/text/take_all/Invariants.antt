use Rattle.zf_schema.proofs.Prelude.{drop, map, Schema, schema_of, resolved_of, Offence, TakesAll, OffendsConjuncts, Span}
use Rattle.zf_schema.proofs.text.take_all.Given as goal

abbrev pub invariant-loop-conjunct : goal.invariant-loop-conjunct
invariant-loop-conjunct l = record {
  takes : (out : Schema) → TakesAll (schema_of l.growing) (map resolved_of (drop l.conjunct-index l.conjuncts)) out
      → TakesAll (schema_of l.initial.growing) (map resolved_of l.conjuncts) out;
  offends : (k : Offence) (m : Span) → OffendsConjuncts (schema_of l.growing) (map resolved_of (drop l.conjunct-index l.conjuncts)) k m
      → OffendsConjuncts (schema_of l.initial.growing) (map resolved_of l.conjuncts) k m;
}
