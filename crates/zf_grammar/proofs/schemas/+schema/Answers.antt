use Rattle.zf_grammar.proofs.Prelude.{arith, read_schema}
use Rattle.zf_grammar.proofs.Turns.{deeper}
use Rattle.zf_grammar.proofs.schemas.+schema.Goals as goal

pub returns-then-highest-eq0-clause-value : goal.returns-then-highest-eq0-clause-value
unfolding read_schema
returns-then-highest-eq0-clause-value t c = rw (c.too_deep.ensures, c.if-highest-eq0.true)

pub returns-clause-value : goal.returns-clause-value
unfolding read_schema
returns-clause-value t c = rw (deeper (λ n. read_schema n c.args.tokens.now) c.args.highest (omega arith)) c.disjunction.ensures.value
