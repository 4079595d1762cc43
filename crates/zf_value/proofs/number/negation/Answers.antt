use Rattle.zf_value.proofs.Prelude.{ap, neg_ℤ, IsNegation}
use Rattle.zf_value.proofs.Exactly.{checked, same}
use Rattle.zf_value.proofs.number.negation.Goals as goal

pub returns : goal.returns
unfolding IsNegation
returns c = checked _ _ _ _ (ap neg_ℤ (same c.args.a c.ranges.a)) c.checked_neg.ensures c.number_or_out.ensures
