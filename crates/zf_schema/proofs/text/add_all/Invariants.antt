use Rattle.zf_schema.proofs.Prelude.{drop, plain, Schema, schema_of, resolved_of, type_of, Offence, AddsAll, OffendsNames, Span}
use Rattle.zf_schema.proofs.text.add_all.Given as goal

abbrev pub invariant-loop-name : goal.invariant-loop-name
invariant-loop-name l = record {
  adds : (out : Schema) → AddsAll (schema_of l.growing) (drop l.name-index l.names) (type_of l.ztype) (plain (resolved_of l.set)) out
      → AddsAll (schema_of l.initial.growing) l.names (type_of l.ztype) (plain (resolved_of l.set)) out;
  offends : (k : Offence) (m : Span) → OffendsNames (schema_of l.growing) (drop l.name-index l.names) (type_of l.ztype) (plain (resolved_of l.set)) k m
      → OffendsNames (schema_of l.initial.growing) l.names (type_of l.ztype) (plain (resolved_of l.set)) k m;
}
