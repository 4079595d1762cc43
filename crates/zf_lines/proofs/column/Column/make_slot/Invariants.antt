use Rattle.zf_lines.proofs.Prelude.{◌+◌, ◌-◌, ◌≡◌, length, List, ℕ, Keeps}
use Rattle.zf_lines.proofs.column.Column.make_slot.Given as goal

abbrev pub invariant-loop-self : goal.invariant-loop-self
invariant-loop-self l = ((f : ℕ → List ℕ) → Keeps f l.initial.self → Keeps f l.self) × (l.self.head ≡ l.initial.self.head)

abbrev pub decreases-loop-self : goal.decreases-loop-self
decreases-loop-self l = l.slot + 1 - length l.self.slots.items
