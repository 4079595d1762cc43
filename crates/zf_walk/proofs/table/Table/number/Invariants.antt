use Rattle.zf_walk.proofs.Prelude.{◌≡◌, drop, number}
use Rattle.zf_walk.proofs.table.Table.number.Given as goal

-- the digits that are left make the whole number
abbrev pub invariant-loop-used : goal.invariant-loop-used
invariant-loop-used l = number l.number (drop l.used-index l.used-items) l.places ≡ number 0 l.self.used.items l.places
