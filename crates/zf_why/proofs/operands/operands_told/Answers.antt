use Rattle.zf_why.proofs.Prelude.{◌∙◌, sym, environment_of, pos, resolved_of, Int}
use Rattle.zf_why.proofs.HeldOutcomes.{held_told}
use Rattle.zf_why.proofs.operands.operands_told.Goals as goal

pub returns : goal.returns
returns c = held_told (environment_of c.args.env.now) c.args.held.now (Int (pos 0)) (resolved_of c.args.term.now) c.relation_in.result
    (sym c.names_held.ensures ∙ c.if-not-names_held.false) c.relation_in.ensures
