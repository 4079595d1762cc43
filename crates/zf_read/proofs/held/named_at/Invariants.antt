-- No component so far is named.
use Rattle.zf_read.proofs.Prelude.{◌<◌, ℕ, drop, map, comp_of, IsNamed}
use Rattle.zf_read.proofs.held.named_at.Given as goal

abbrev pub invariant-loop-next : goal.invariant-loop-next
invariant-loop-next l = (place : ℕ) → place < l.next → IsNamed (map comp_of l.components) l.held (drop l.place l.text) place → ⊥
