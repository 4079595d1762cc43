use Rattle.zf_grammar.proofs.Prelude.{◌-◌, ◌≡◌, ◌≤◌, items, items_from, tall}
use Rattle.zf_grammar.proofs.items.items.Given as goal

-- the items so far, and those that are left, are the whole
abbrev pub invariant-loop-turn : goal.invariant-loop-turn
invariant-loop-turn g l = record {
  same : items l.part (g.R.Rule.parser l.rule) l.fn.tokens ≡ items_from l.part (g.R.Rule.parser l.rule) (l._turn-end - l._turn) (tall l.items l.height) l.tokens;
  low : l.height ≤ g.R.Rule.limit l.rule;
}
