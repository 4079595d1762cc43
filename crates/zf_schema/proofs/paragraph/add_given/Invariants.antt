use Rattle.zf_schema.proofs.Prelude.{◌+◌, ◌<◌, ◌^◌, ◌≡◌, ◌≤◌, drop, length, List, Defined, globals_of, next_number, Offence, Gives, OffendsGiven, Span}
use Rattle.zf_schema.proofs.Beginning.{Begins}
use Rattle.zf_schema.proofs.paragraph.add_given.Given as goal

abbrev pub invariant-loop-place : goal.invariant-loop-place
invariant-loop-place l = record {
  gives : (h : List Defined) → Gives (globals_of l.globals) (drop l.place l.names) h → Gives (globals_of l.initial.globals) l.names h;
  offends : (kind : Offence) (span : Span) → OffendsGiven (globals_of l.globals) (drop l.place l.names) kind span → OffendsGiven (globals_of l.initial.globals) l.names kind span;
  number : next_number (globals_of l.globals) ≡ l.first + l.place;
  small : l.first < 2 ^ 63;
  room : length (globals_of l.initial.globals) ≤ length (globals_of l.globals);
  begun : Begins (globals_of l.initial.globals) (globals_of l.globals);
}
