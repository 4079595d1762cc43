-- How the program's globals are seen as definitions.
use Rattle.std.specs.Prelude.{ℕ, List, map}
use Rattle.zf_term.specs.declared.globals.Entry.{Entry}
use Rattle.zf_term.specs.declared.globals.Entry.TheVariants as entry
use Rattle.zf_term.specs.declared.globals.Globals.{Globals}
use Rattle.zf_term.specs.ResolvedViews.{resolved_of}
use Rattle.zf_term.specs.TypeViews.{type_of}
use Rattle.zf_term.specs.SchemaViews.{schema_of}
use Rattle.zf_term.specs.Definitions.{Definition, Defined, given_set, free_type, constructor, abbreviation, schema}

abbrev pub definition_of : Entry → Definition
definition_of (entry.Given n) = given_set n
definition_of (entry.Free n names) = free_type n names
definition_of (entry.Constructor n name place) = constructor n name place
definition_of (entry.Abbrev t r x) = abbreviation (type_of t) (resolved_of r) x
definition_of (entry.Schema f) = schema (schema_of f)

abbrev pub entry_of : List ℕ → Entry → Defined
entry_of name e = record { name = name; definition = definition_of e }

abbrev pub globals_of : Globals → List Defined
globals_of g = map (λ e. entry_of e.0.items e.1) g.entries.entries
