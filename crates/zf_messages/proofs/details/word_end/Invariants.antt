-- No blank stands from the place on.
use Rattle.zf_messages.proofs.Prelude.{◌≡◌, ◌≤◌}
use Rattle.zf_messages.specs.Details.{front_of_words, width}
use Rattle.zf_messages.proofs.details.word_end.Given as goal

abbrev pub invariant-loop-len : goal.invariant-loop-len
invariant-loop-len l = record { within : l.len ≤ width; same : front_of_words width l.text ≡ front_of_words l.len l.text }

abbrev pub decreases-loop-len : goal.decreases-loop-len
decreases-loop-len l = l.len
