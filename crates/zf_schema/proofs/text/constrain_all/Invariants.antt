use Rattle.zf_schema.proofs.Prelude.{drop, map, tree_of, globals_of, Schema, schema_of, Offence, Constrains, OffendsPredicates, Span}
use Rattle.zf_schema.proofs.text.constrain_all.Given as goal

abbrev pub invariant-loop-predicate : goal.invariant-loop-predicate
invariant-loop-predicate l = record {
  constrains : (out : Schema) → Constrains (globals_of l.globals) (schema_of l.growing) (map tree_of (drop l.predicate-index l.predicates)) out
      → Constrains (globals_of l.globals) (schema_of l.initial.growing) (map tree_of l.predicates) out;
  offends : (k : Offence) (m : Span) → OffendsPredicates (globals_of l.globals) (schema_of l.growing) (map tree_of (drop l.predicate-index l.predicates)) k m
      → OffendsPredicates (globals_of l.globals) (schema_of l.initial.growing) (map tree_of l.predicates) k m;
}
