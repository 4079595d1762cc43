-- How the program's scopes and what it finds in them are seen.
use Rattle.std.specs.Prelude.{Option, Some, None, map}
use Rattle.zf_typing.specs.Prelude.{Reference, comp_of, globals_of, type_of, Sort, sort_of}
use Rattle.zf_typing.specs.declared.scope.Scope as program_scope
use Rattle.zf_typing.specs.declared.variable.Variable.{Variable}
use Rattle.zf_sorts.specs.declared.sort.Sort as program
use Rattle.zf_typing.specs.Scopes.{Var, Scope}

abbrev pub variable_of : Variable → Var
variable_of v = record { name = v.name; type = type_of v.ztype }

unfoldable pub scope_of : program_scope.Scope → Scope
scope_of s = record { globals = globals_of s.globals.now; comps = map comp_of s.components.now; locals = map variable_of s.locals }

abbrev pub meant : Option (Reference × program.Sort) → Option (Reference × Sort)
meant None = None
meant (Some p) = Some (p.0, sort_of p.1)
