-- The bytes so far.
use Rattle.zf_steps.proofs.Prelude.{◌++◌, ◌≡◌, take, label_of}
use Rattle.zf_steps.proofs.labels.append_as_label.Given as goal

abbrev pub invariant-loop-byte : goal.invariant-loop-byte
invariant-loop-byte l = l.line.items ≡ l.fn.line.items ++ label_of (take l.byte-index l.text)
