use Rattle.zf_schema.proofs.Prelude.{drop, map, decl_of, globals_of, Schema, schema_of, Offence, Declares, OffendsDecls, Span}
use Rattle.zf_schema.proofs.text.declare_all.Given as goal

abbrev pub invariant-loop-decl : goal.invariant-loop-decl
invariant-loop-decl l = record {
  declares : (out : Schema) → Declares (globals_of l.globals) (schema_of l.growing) (map decl_of (drop l.decl-index l.decls)) out
      → Declares (globals_of l.globals) (schema_of l.initial.growing) (map decl_of l.decls) out;
  offends : (k : Offence) (m : Span) → OffendsDecls (globals_of l.globals) (schema_of l.growing) (map decl_of (drop l.decl-index l.decls)) k m
      → OffendsDecls (globals_of l.globals) (schema_of l.initial.growing) (map decl_of l.decls) k m;
}
