use Rattle.zf_grammar.proofs.Prelude.{◌-◌, ◌≡◌, ◌≤◌, max, tall, further, items_from, read_term}
use Rattle.zf_grammar.proofs.terms.Grammar.further.Given as goal

-- the terms so far, and those that are left, are the whole
abbrev pub invariant-loop-turn : goal.invariant-loop-turn
invariant-loop-turn g l = record {
  same : further (read_term l.self.below) l.mark l.place l.fn.first l.fn.tokens ≡ items_from l.mark (read_term l.self.below l.place) (l._turn-end - l._turn) (tall l.terms l.height) l.tokens;
  low : l.height ≤ max l.fn.first.height l.self.below;
}
