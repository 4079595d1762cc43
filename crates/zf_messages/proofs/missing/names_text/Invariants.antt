-- The text has the names up to the place.
use Rattle.zf_messages.proofs.Prelude.{◌≡◌, [], take, and_name}
use Rattle.std.specs.List.{fold}
use Rattle.zf_messages.proofs.missing.names_text.Given as goal

abbrev pub invariant-loop-name : goal.invariant-loop-name
invariant-loop-name l = l.text.items ≡ fold and_name [] (take l.name-index l.names)
