-- With what the rest adds the text is whole.
use Rattle.zf_messages.proofs.Prelude.{◌≡◌, ◌++◌, drop}
use Rattle.zf_messages.specs.Places.{squeezed, squeezed_in}
use Rattle.zf_messages.proofs.places.append_squeezed.Given as goal

abbrev pub invariant-loop-byte : goal.invariant-loop-byte
invariant-loop-byte l = l.text.items ++ squeezed_in l.mode (drop l.byte-index l.bytes) ≡ l.initial.text.items ++ squeezed l.bytes
