use Rattle.zf_typing.proofs.Prelude.{◌++◌, ◌≡◌, drop, List, map, Ty, type_of, var_type, variable_of}
use Rattle.zf_typing.proofs.binding.row.Given as goal

abbrev pub invariant-loop-place : goal.invariant-loop-place
invariant-loop-place l = record {
  rows : (us : List Ty) → us ≡ map var_type (map variable_of (drop l.place l.locals)) → map type_of l.types ++ us ≡ map var_type (map variable_of (drop l.outside l.locals));
}
