-- The text has the messages up to the place.
use Rattle.zf_messages.proofs.Prelude.{◌≡◌, take}
use Rattle.std.specs.List.{flat_map}
use Rattle.zf_messages.specs.Messages as spec
use Rattle.zf_messages.proofs.writing.all_objects.Given as goal

abbrev pub invariant-loop-message : goal.invariant-loop-message
invariant-loop-message l = l.text.items ≡ flat_map (spec.message_object l.file) (take l.message-index l.messages)
