use Rattle.zf_schema.proofs.Prelude.{◌≤◌, drop, length, List, spelling, Defined, globals_of, Offence, Constructs, OffendsConstructors, Span}
use Rattle.zf_schema.proofs.Beginning.{Begins}
use Rattle.zf_schema.proofs.paragraph.add_constructors.Given as goal

abbrev pub invariant-loop-place : goal.invariant-loop-place
invariant-loop-place l = record {
  constructs : (h : List Defined) → Constructs (globals_of l.globals) l.number (spelling l.of_type) l.place (drop l.place l.names) h
      → Constructs (globals_of l.initial.globals) l.number (spelling l.of_type) 0 l.names h;
  offends : (kind : Offence) (span : Span) → OffendsConstructors (globals_of l.globals) l.number (spelling l.of_type) l.place (drop l.place l.names) kind span
      → OffendsConstructors (globals_of l.initial.globals) l.number (spelling l.of_type) 0 l.names kind span;
  room : length (globals_of l.initial.globals) ≤ length (globals_of l.globals);
  begun : Begins (globals_of l.initial.globals) (globals_of l.globals);
}
