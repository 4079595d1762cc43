-- What is read so far.
use Rattle.zf_read.proofs.Prelude.{◌≡◌, ◌≤◌, drop, length, map, type_of, types, environment_of}
use Rattle.zf_read.proofs.SoFar.{PartsSoFar, MembersSoFar}
use Rattle.zf_read.proofs.read.+read.Given as goal

abbrev pub invariant-read_parts-loop-count : goal.invariant-read_parts-loop-count
invariant-read_parts-loop-count l =
    (l.at ≤ length l.line.text.now)
    × PartsSoFar l.line.spellings.now (environment_of l.line.env.now) (types (map type_of l.parts)) (types (map type_of (drop l.count l.parts)))
    (drop l.place l.line.text.now) l.count l.values.items (drop l.at l.line.text.now)

abbrev pub invariant-read_members-loop-count : goal.invariant-read_members-loop-count
invariant-read_members-loop-count l =
    (l.at ≤ length l.line.text.now) × (length l.members.items ≡ l.count)
    × MembersSoFar l.line.spellings.now (environment_of l.line.env.now) (type_of l.member)
    (drop l.place l.line.text.now) l.members.items (drop l.at l.line.text.now)
