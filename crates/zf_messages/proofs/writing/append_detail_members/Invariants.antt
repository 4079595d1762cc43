-- The text has the details up to the place.
use Rattle.zf_messages.proofs.Prelude.{◌++◌, ◌≡◌, take}
use Rattle.std.specs.List.{flat_map}
use Rattle.zf_messages.specs.Messages as spec
use Rattle.zf_messages.proofs.writing.append_detail_members.Given as goal

abbrev pub invariant-loop-detail : goal.invariant-loop-detail
invariant-loop-detail l = l.text.items ≡ l.initial.text.items ++ flat_map spec.detail_member (take l.detail-index l.details)
