-- What the vector holds was consumed, and no call failed.
use Rattle.zf_answers.proofs.Prelude.{◌+◌, ◌-◌, ◌≡◌, ◌≤◌, vec_len, Consumes, device_of, failures_of}
use Rattle.zf_scan.specs.declared.scan.TheConstants.{SOURCE_MAX}
use Rattle.zf_answers.proofs.reading.read_source.Given as goal

abbrev pub invariant-loop-buffer : goal.invariant-loop-buffer
invariant-loop-buffer g l = Consumes (g.R.Read.remaining (device_of l.initial.reader)) (g.R.Read.remaining (device_of l.reader)) l.source.items
    × (failures_of l.reader ≡ 0) × (vec_len l.source ≤ SOURCE_MAX + 1)

abbrev pub decreases-loop-buffer : goal.decreases-loop-buffer
decreases-loop-buffer g l = SOURCE_MAX + 1 - vec_len l.source
