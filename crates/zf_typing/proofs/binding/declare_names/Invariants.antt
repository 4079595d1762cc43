use Rattle.zf_typing.proofs.Prelude.{◌++◌, ◌≡◌, drop, List, map, Name, type_of, Offence, AreNew, AreRepeated, variable_of, variables, Span}
use Rattle.zf_typing.proofs.binding.declare_names.Given as goal

abbrev pub invariant-loop-name : goal.invariant-loop-name
invariant-loop-name l = record {
  kept : type_of l.members ≡ type_of l.initial.members;
  adds : map variable_of l.variables ++ variables (drop l.name-index l.names) (type_of l.initial.members) ≡ map variable_of l.initial.variables ++ variables l.names (type_of l.initial.members);
  apart : (ns : List Name) → AreNew (map variable_of l.variables) (drop l.name-index l.names ++ ns) → AreNew (map variable_of l.initial.variables) (l.names ++ ns);
  repeated : (ns : List Name) (kind : Offence) (span : Span) → AreRepeated (map variable_of l.variables) (drop l.name-index l.names ++ ns) kind span
      → AreRepeated (map variable_of l.initial.variables) (l.names ++ ns) kind span;
}
