use Rattle.zf_term.proofs.Prelude.{◌≡◌, drop, map, have_numbers, types, type_of}
use Rattle.zf_term.proofs.ztype.+numbers.Given as goal

abbrev pub invariant-have_numbers-loop-part : goal.invariant-have_numbers-loop-part
invariant-have_numbers-loop-part l = have_numbers (types (map type_of l.parts)) ≡ have_numbers (types (map type_of (drop l.part-index l.parts)))
