use Rattle.std.proofs.Common.{◌≡◌, take}
use Rattle.zf_print.proofs.spelling.copied.Given as goal

abbrev pub invariant-loop-name : goal.invariant-loop-name
invariant-loop-name l = l.texts ≡ take l.name-index l.names
