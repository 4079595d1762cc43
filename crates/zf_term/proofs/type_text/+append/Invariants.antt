-- The text has grown by the parts so far.
use Rattle.std.proofs.Common.{◌≡◌, ◌++◌}
use Rattle.zf_term.proofs.PrintedTypes.{written}
use Rattle.zf_term.proofs.type_text.+append.Given as goal

abbrev pub invariant-append_parts-loop-i : goal.invariant-append_parts-loop-i
invariant-append_parts-loop-i l = l.text.items ≡ l.initial.text.items ++ written l.parts l.i
