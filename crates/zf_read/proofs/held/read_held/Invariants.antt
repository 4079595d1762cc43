-- What is read so far.
use Rattle.zf_read.proofs.Prelude.{◌-◌, ◌≡◌, ◌≤◌, drop, length, map, comp_of, environment_of}
use Rattle.zf_read.proofs.HeldSoFar.{HeldSoFar}
use Rattle.zf_read.proofs.held.read_held.Given as goal

abbrev pub invariant-loop-place : goal.invariant-loop-place
invariant-loop-place l =
    (l.place ≤ length l.text) × (l.count ≤ l.place) × (length l.held.items ≡ length l.flat.components)
    × HeldSoFar l.spellings (environment_of l.env) (map comp_of l.flat.components) l.text l.count l.held.items (drop l.place l.text)

abbrev pub decreases-loop-place : goal.decreases-loop-place
decreases-loop-place l = length l.text - l.place
