-- None is there up to the next one.
use Rattle.zf_parts.proofs.Prelude.{◌+◌, ◌<◌, ◌≡◌, ℕ, ◌*◌, ◌-◌, ◌/◌, ◌%◌, ◌≤◌, get_or}
use Rattle.zf_parts.proofs.words.past_in.Given as goal

abbrev pub invariant-loop-next : goal.invariant-loop-next
invariant-loop-next l = (l.word < l.next) × (l.next ≤ (l.word / 16 + 1) * 16) × ((k : ℕ) → l.word < k → k < l.next → get_or l.page.words (k % 16) 0 ≡ 0)

abbrev pub decreases-loop-next : goal.decreases-loop-next
decreases-loop-next l = l.end - l.next
