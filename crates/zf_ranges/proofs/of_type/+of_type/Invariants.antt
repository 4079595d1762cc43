use Rattle.zf_ranges.proofs.Prelude.{◌↔◌, drop, map, type_of, types, environment_of, AreOfTypes, IsOfType, AllByRecursion}
use Rattle.zf_ranges.proofs.of_type.+of_type.Given as goal

abbrev pub invariant-are_all_of-loop-value : goal.invariant-are_all_of-loop-value
invariant-are_all_of-loop-value l =
    AllByRecursion (λ z. IsOfType (environment_of l.env) (type_of l.ztype) z) l.values ↔ AllByRecursion (λ z. IsOfType (environment_of l.env) (type_of l.ztype) z) (drop l.value-index l.values)

abbrev pub invariant-are_each_of-loop-place : goal.invariant-are_each_of-loop-place
invariant-are_each_of-loop-place l =
    AreOfTypes (environment_of l.env) (types (map type_of l.ztypes)) l.values ↔ AreOfTypes (environment_of l.env) (types (map type_of (drop l.place l.ztypes))) (drop l.place l.values)
