use Rattle.zf_grammar.proofs.Prelude.{◌+◌, ◌-◌, ◌≡◌, ◌≤◌, climb, read_term}
use Rattle.zf_grammar.proofs.terms.Grammar.climb.Given as goal

-- what was read so far, and the turns that are left, are the whole
abbrev pub invariant-loop-turn : goal.invariant-loop-turn
invariant-loop-turn g l = record {
  same : climb (read_term l.self.below) (l.self.below + 1) l.least (l.self.below + 1) l.fn.left l.fn.tokens
      ≡ climb (read_term l.self.below) (l.self.below + 1) l.least (l._turn-end - l._turn) l.left l.tokens;
  low : l.left.height ≤ l.self.below + 1;
}
