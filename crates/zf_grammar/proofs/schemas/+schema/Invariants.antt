use Rattle.zf_grammar.proofs.schemas.+schema.Given as goal

abbrev pub decreases-schema : goal.decreases-schema
decreases-schema l = l.highest
