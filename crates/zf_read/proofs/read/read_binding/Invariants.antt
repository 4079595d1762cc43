-- What is read so far.
use Rattle.zf_read.proofs.Prelude.{◌≤◌, drop, length, map, comp_of, environment_of}
use Rattle.zf_read.proofs.SoFar.{RowSoFar}
use Rattle.zf_read.proofs.read.read_binding.Given as goal

abbrev pub invariant-loop-count : goal.invariant-loop-count
invariant-loop-count l =
    (l.place ≤ length l.text)
    × RowSoFar l.spellings (environment_of l.env) (map comp_of l.flat.components) (map comp_of (drop l.count l.flat.components)) l.text l.count l.row.items (drop l.place l.text)
