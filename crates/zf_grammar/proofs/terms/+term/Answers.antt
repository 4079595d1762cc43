use Rattle.zf_grammar.proofs.Prelude.{arith, read_term}
use Rattle.zf_grammar.proofs.Turns.{deeper}
use Rattle.zf_grammar.proofs.terms.+term.Goals as goal

pub returns-then-highest-eq0-clause-value : goal.returns-then-highest-eq0-clause-value
unfolding read_term
returns-then-highest-eq0-clause-value t c = rw (c.too_deep.ensures, c.if-highest-eq0.true)

pub returns-clause-value : goal.returns-clause-value
unfolding read_term
returns-clause-value t c = rw (deeper (λ n. read_term n c.args.least c.args.tokens.now) c.args.highest (omega arith)) c.whole.ensures.value
