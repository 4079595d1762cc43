use Rattle.zf_value.proofs.Measures.{out_is}
use Rattle.zf_value.proofs.value.Value.form.Goals as goal

pub returns : goal.returns
returns c = record { level = out_is _ _ c.self.view_is; ordered = c.self.invariant }
