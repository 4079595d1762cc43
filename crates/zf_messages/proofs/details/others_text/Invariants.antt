-- The text has the others up to the place.
use Rattle.zf_messages.proofs.Prelude.{◌≡◌, take, map}
use Rattle.zf_messages.specs.{other_of}
use Rattle.zf_messages.specs.Details as spec
use Rattle.zf_messages.proofs.details.others_text.Given as goal

abbrev pub invariant-loop-place : goal.invariant-loop-place
invariant-loop-place l = l.text.items ≡ spec.others_text l.source (take l.place (map other_of l.others))
