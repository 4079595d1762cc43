use Rattle.zf_grammar.proofs.Prelude.{◌-◌, ◌≡◌, ◌≤◌, chain_links, tall, links_from, read_term}
use Rattle.zf_grammar.proofs.terms.Grammar.chain_links.Given as goal

-- the links so far, and those that are left, are the whole
abbrev pub invariant-loop-turn : goal.invariant-loop-turn
invariant-loop-turn g l = record {
  same : chain_links (read_term l.self.below) l.fn.tokens ≡ links_from (read_term l.self.below) (l._turn-end - l._turn) (tall l.links l.height) l.tokens;
  low : l.height ≤ l.self.below;
}
